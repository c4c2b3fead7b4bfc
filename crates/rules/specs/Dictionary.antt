-- 01, Dictionary: its entries, and the search for a name. Not judged is what stands in data of any length: the text of
-- strings and identities, addresses, and anything inside 279, 621, 623, 650 or an AVP that the dictionary lacks.
use Rattle.std.specs.Prelude.{ℕ, List, [], ◌∷◌, ◌++◌, Bool, true, false, cond, ◌&&◌, eqb, Option, Some, None}
use Rattle.rules.specs.declared.Avp.{Avp}
use Rattle.rules.specs.declared.Entry.{Entry}
use Rattle.rules.specs.declared.Form.{Form}
use Rattle.rules.specs.declared.Form.TheVariants.{Any, Fixed, Group}
use Rattle.rules.specs.declared.Grammar.{Grammar}
use Rattle.rules.specs.Header.{code_background_data_transfer, vendor_3gpp}
use Rattle.rules.specs.declared.Grammar.TheVariants.{Request, Answer, ErrorAnswer, VendorSpecificApplicationId, ExperimentalResult, ProxyInfo, SupportedFeatures, TimeWindow, TransferPolicy}

-- entries of one vendor, one rule for M and one form
abbrev pub entries : ℕ → Bool → Form → List ℕ → List Entry
entries vendor m form [] = []
entries vendor m form (code ∷ codes) = record { vendor = vendor; code = code; m = m; form = form } ∷ entries vendor m form codes

-- the dictionary of the Nt application
unfoldable pub dictionary : List Entry
dictionary =
    -- RFC 6733, no vendor, M; 281 and 294 M free
    entries 0 true (Fixed 4) (258 ∷ 259 ∷ 261 ∷ 262 ∷ 266 ∷ 268 ∷ 277 ∷ 278 ∷ 298 ∷ [])
    ++ entries 0 true Any (263 ∷ 264 ∷ 296 ∷ 293 ∷ 283 ∷ 292 ∷ 280 ∷ 33 ∷ 282 ∷ 279 ∷ [])
    ++ entries 0 false Any (281 ∷ 294 ∷ [])
    ++ entries 0 true (Group VendorSpecificApplicationId) (260 ∷ [])
    ++ entries 0 true (Group ExperimentalResult) (297 ∷ [])
    ++ entries 0 true (Group ProxyInfo) (284 ∷ [])
    -- RFC 4006, no vendor, M
    ++ entries 0 true (Fixed 4) (432 ∷ [])
    ++ entries 0 true (Fixed 8) (412 ∷ 414 ∷ 421 ∷ [])
    -- no vendor, M free
    ++ entries 0 false (Fixed 4) (301 ∷ [])
    ++ entries 0 false Any (621 ∷ 623 ∷ 650 ∷ [])
    -- 3GPP, M free
    ++ entries vendor_3gpp false (Fixed 4) (629 ∷ 630 ∷ [])
    ++ entries vendor_3gpp false Any (532 ∷ 2207 ∷ [])
    ++ entries vendor_3gpp false (Group SupportedFeatures) (628 ∷ [])
    -- 3GPP, M
    ++ entries vendor_3gpp true (Fixed 4) (515 ∷ 516 ∷ 4203 ∷ 4205 ∷ 4206 ∷ 4208 ∷ 4209 ∷ [])
    ++ entries vendor_3gpp true Any (4201 ∷ 4202 ∷ [])
    ++ entries vendor_3gpp true (Group TimeWindow) (4204 ∷ [])
    ++ entries vendor_3gpp true (Group TransferPolicy) (4207 ∷ [])

-- what a dictionary says of a name: whether M must be set, and the form of the data; or that it lacks the name
pub data Definition : Type 0 where
  Known : Bool → Form → Definition
  Unknown : Definition

-- what a dictionary says of a vendor and a code
unfoldable pub find : List Entry → ℕ → ℕ → Definition
find [] vendor code = Unknown
find (e ∷ es) vendor code =
    cond (eqb vendor e.vendor && eqb code e.code) (Known e.m e.form) (find es vendor code)

-- what it says of an AVP
abbrev pub defined : List Entry → Avp → Definition
defined dict a = find dict a.vendor a.code

-- M must be set
abbrev pub requires_m : Definition → Bool
requires_m (Known m form) = m
requires_m Unknown = false

-- whether the dictionary has the name
abbrev pub is_known : Definition → Bool
is_known (Known m form) = true
is_known Unknown = false

-- the rows that a group's members go by
abbrev pub members_in : Form → Option Grammar
members_in Any = None
members_in (Fixed w) = None
members_in (Group g) = Some g

abbrev pub members_of : Definition → Option Grammar
members_of (Known m form) = members_in form
members_of Unknown = None

-- a group whose data is read
abbrev pub has_members : Option Grammar → Bool
has_members (Some g) = true
has_members None = false

abbrev pub is_group : Definition → Bool
is_group d = has_members (members_of d)

-- whether data of this length meets the form's width
abbrev pub fits_form : Form → ℕ → Bool
fits_form Any length = true
fits_form (Fixed w) length = eqb length w
fits_form (Group g) length = true

-- the same of what the dictionary says
abbrev pub fits_width : Definition → ℕ → Bool
fits_width (Known m form) length = fits_form form length
fits_width Unknown length = true

-- beyond 01: a list by a number, so that an answer that names a list is told by one. It is the code of the group, for a
-- command's own list that of the command; no group's members go by a command's rows
abbrev pub list_number : Grammar → ℕ
list_number Request = code_background_data_transfer
list_number Answer = code_background_data_transfer
list_number ErrorAnswer = code_background_data_transfer
list_number VendorSpecificApplicationId = 260
list_number ExperimentalResult = 297
list_number ProxyInfo = 284
list_number SupportedFeatures = 628
list_number TimeWindow = 4204
list_number TransferPolicy = 4207

-- the number of the list by whose rows members go, 0 for no members
abbrev pub rows_number : Option Grammar → ℕ
rows_number (Some g) = list_number g
rows_number None = 0

-- the width of data, 0 where any length passes
abbrev pub width_of : Form → ℕ
width_of Any = 0
width_of (Fixed w) = w
width_of (Group g) = 0

-- the same of what the dictionary says
abbrev pub fixed_width : Definition → ℕ
fixed_width (Known m form) = width_of form
fixed_width Unknown = 0
