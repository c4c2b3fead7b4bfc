-- 01, Rows, and 02, [1]: the rows of each list, in the printed order.
use Rattle.std.specs.Prelude.{ℕ, List, [], ◌∷◌, Bool, true, false}
use Rattle.rules.specs.declared.Mark.{Mark}
use Rattle.rules.specs.declared.Mark.TheVariants.{First, FirstIfPresent, Once, AtMostOnce, AnyNumber}
use Rattle.rules.specs.declared.Grammar.{Grammar}
use Rattle.rules.specs.declared.Grammar.TheVariants.{Request, Answer, ErrorAnswer, VendorSpecificApplicationId, ExperimentalResult, ProxyInfo, SupportedFeatures, TimeWindow, TransferPolicy}
use Rattle.rules.specs.Header.{vendor_3gpp}

-- a row: the name, and its mark
pub record Row : Type 0 where
  pub vendor : ℕ
  pub code : ℕ
  pub mark : Mark

-- a row for an AVP without vendor
abbrev pub plain : ℕ → Mark → Row
plain code mark = record { vendor = 0; code = code; mark = mark }

-- a row for an AVP of 3GPP
abbrev pub of_3gpp : ℕ → Mark → Row
of_3gpp code mark = record { vendor = vendor_3gpp; code = code; mark = mark }

-- the rows of each list
unfoldable pub rows_of : Grammar → List Row
rows_of Request =
    plain 263 First ∷ plain 301 AtMostOnce ∷ plain 260 Once ∷ plain 277 Once ∷ plain 264 Once ∷ plain 296 Once ∷ plain 283 Once ∷
    plain 293 AtMostOnce ∷ of_3gpp 4203 Once ∷ of_3gpp 532 AtMostOnce ∷ plain 414 AtMostOnce ∷ plain 412 AtMostOnce ∷
    plain 421 AtMostOnce ∷ of_3gpp 4209 AtMostOnce ∷ of_3gpp 4204 AtMostOnce ∷ of_3gpp 4201 AtMostOnce ∷ of_3gpp 4202 AtMostOnce ∷
    of_3gpp 4208 AtMostOnce ∷ plain 621 AtMostOnce ∷ plain 284 AnyNumber ∷ plain 282 AnyNumber ∷ of_3gpp 628 AnyNumber ∷ []
rows_of Answer =
    plain 263 First ∷ plain 301 AtMostOnce ∷ plain 260 Once ∷ plain 277 Once ∷ plain 264 Once ∷ plain 296 Once ∷
    plain 268 AtMostOnce ∷ plain 297 AtMostOnce ∷ plain 281 AtMostOnce ∷ plain 294 AtMostOnce ∷ plain 279 AtMostOnce ∷
    plain 292 AnyNumber ∷ plain 261 AtMostOnce ∷ plain 262 AtMostOnce ∷ of_3gpp 4202 AtMostOnce ∷ plain 621 AtMostOnce ∷
    plain 623 AtMostOnce ∷ of_3gpp 4207 AnyNumber ∷ of_3gpp 2207 AtMostOnce ∷ plain 284 AnyNumber ∷ plain 282 AnyNumber ∷
    of_3gpp 628 AnyNumber ∷ plain 650 AnyNumber ∷ []
-- 02, [1]: the general form of RFC 6733 clause 7.2
rows_of ErrorAnswer =
    plain 263 FirstIfPresent ∷ plain 264 Once ∷ plain 296 Once ∷ plain 268 Once ∷ plain 278 AtMostOnce ∷
    plain 281 AtMostOnce ∷ plain 294 AtMostOnce ∷ plain 279 AtMostOnce ∷ plain 297 AtMostOnce ∷ plain 284 AnyNumber ∷ []
rows_of VendorSpecificApplicationId = plain 266 Once ∷ plain 258 AtMostOnce ∷ plain 259 AtMostOnce ∷ []
rows_of ExperimentalResult = plain 266 Once ∷ plain 298 Once ∷ []
rows_of ProxyInfo = plain 280 Once ∷ plain 33 Once ∷ []
rows_of SupportedFeatures = plain 266 Once ∷ of_3gpp 629 Once ∷ of_3gpp 630 Once ∷ []
rows_of TimeWindow = of_3gpp 4206 Once ∷ of_3gpp 4205 Once ∷ []
rows_of TransferPolicy =
    of_3gpp 4208 Once ∷ of_3gpp 4204 AtMostOnce ∷ plain 432 AtMostOnce ∷ of_3gpp 515 AtMostOnce ∷ of_3gpp 516 AtMostOnce ∷ []

-- "+" at the end admits any other AVP in any number
unfoldable pub admits_others : Grammar → Bool
admits_others Request = true
admits_others Answer = true
admits_others ErrorAnswer = true
admits_others VendorSpecificApplicationId = false
admits_others ExperimentalResult = false
admits_others ProxyInfo = true
admits_others SupportedFeatures = true
admits_others TimeWindow = true
admits_others TransferPolicy = true
