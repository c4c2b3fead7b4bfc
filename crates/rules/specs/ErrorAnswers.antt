-- What request [1] claims of answers with E (proofs/demands/ErrorAnswers), and such answers, with commands of the flags
-- beside theirs, and their verdicts, which are computed in proofs/ErrorEdges. xs are the AVPs of the command's walk.
use Rattle.std.specs.Prelude.{◌≡◌, Bool, true, false, cond, List, [], ◌∷◌, ◌++◌, ℕ, length, Option, None, Some}
use Rattle.rules.specs.declared.Avp.{Avp}
use Rattle.rules.specs.declared.Admission.{Admission}
use Rattle.rules.specs.declared.Grammar.TheVariants.{Request, Answer, ErrorAnswer}
use Rattle.rules.specs.declared.ExchangeRules.TheVariants.{OfRequest, OfAnswer, WindowsAlone}
use Rattle.rules.specs.Octets.{octets}
use Rattle.rules.specs.Verdict.{refused, no_refusal}
use Rattle.rules.specs.Header.{vendor_3gpp, application_nt, command_flags, is_request, is_proxiable, is_error, length_outcome, application_outcome, header_outcome}
use Rattle.rules.specs.declared.Entry.{Entry}
use Rattle.rules.specs.Dictionary.{dictionary}
use Rattle.rules.specs.Walk.{whole}
use Rattle.rules.specs.RowChecks.{admission, list_outcome, groups_outcome}
use Rattle.rules.specs.Command.{command_rules, walk_of}
use Rattle.rules.specs.Windows.{AllRight}
use Rattle.rules.specs.Edges.{header, avp, avp_of_3gpp, letter, vendor_id, answer_begins, window_of, policy_of, proxy_of, Case, case}

-- ---- what is claimed

-- the header of a command whose length, version, application and command code pass, by its command flags
pub record FlagsJudged (c : List ℕ) : Type 0 where
  -- R and E
  pub both : is_request (command_flags c) ≡ true → is_error (command_flags c) ≡ true
      → header_outcome c ≡ refused 3008 4 0 0
  -- P clear without E
  pub clear : is_proxiable (command_flags c) ≡ false → is_error (command_flags c) ≡ false
      → header_outcome c ≡ refused 3008 4 0 0
  -- an answer with E, whatever P
  pub error_answer_lem : is_request (command_flags c) ≡ false → is_error (command_flags c) ≡ true → header_outcome c ≡ no_refusal
  -- P set without E
  pub proxiable : is_proxiable (command_flags c) ≡ true → is_error (command_flags c) ≡ false → header_outcome c ≡ no_refusal

-- what a command is judged by, of each kind
pub record KindsJudged (c : List ℕ) : Type 0 where
  pub request : is_request (command_flags c) ≡ true → command_rules c ≡ record { rows = Request; exchange = OfRequest }
  pub answer : is_request (command_flags c) ≡ false → is_error (command_flags c) ≡ false
      → command_rules c ≡ record { rows = Answer; exchange = OfAnswer }
  pub error_answer_lem : is_request (command_flags c) ≡ false → is_error (command_flags c) ≡ true
      → command_rules c ≡ record { rows = ErrorAnswer; exchange = WindowsAlone }

-- an answer with E whose length, version, application and command code pass
pub record IsErrorAnswer (c : List ℕ) : Type 0 where
  pub long : length_outcome c ≡ no_refusal
  pub known : application_outcome c ≡ no_refusal
  pub not_request : is_request (command_flags c) ≡ false
  pub with_error : is_error (command_flags c) ≡ true

-- its walk is whole, its own list meets the rows of the general form and each group its own, and its windows are right
pub record MeetsGeneralForm (c : List ℕ) (xs : List Avp) : Type 0 where
  pub walk : walk_of c ≡ whole xs
  pub own : list_outcome ErrorAnswer 1 (length c) xs ≡ no_refusal
  pub groups : groups_outcome dictionary xs ≡ no_refusal
  pub windows : AllRight c xs

-- ---- such answers

-- a command of this length, with these command flags
unfoldable pub with_flags : ℕ → ℕ → List ℕ → List ℕ
with_flags flags length avps = header 1 length flags application_nt ++ avps

-- an answer with E and P
abbrev pub error_answer : ℕ → List ℕ → List ℕ
error_answer length avps = with_flags 0x60 length avps

-- 263; 264, 296 and 268, each of 12 octets, and the three
unfoldable pub session : List ℕ
session = avp 263 0x40 9 (letter 0x73)

unfoldable pub host : List ℕ
host = avp 264 0x40 9 (letter 0x68)

unfoldable pub realm : List ℕ
realm = avp 296 0x40 9 (letter 0x72)

unfoldable pub result : List ℕ
result = avp 268 0x40 12 (octets 4 3002)

unfoldable pub three : List ℕ
three = host ++ realm ++ result

-- 278, 281, 294 and 279, whose data is no list, each of 12 octets; 297, of 32
unfoldable pub state : List ℕ
state = avp 278 0x40 12 (octets 4 1)

unfoldable pub message : List ℕ
message = avp 281 0 9 (letter 0x6D)

unfoldable pub reporter : List ℕ
reporter = avp 294 0 9 (letter 0x68)

unfoldable pub failed : List ℕ
failed = avp 279 0x40 9 (letter 0x66)

unfoldable pub experimental : List ℕ
experimental = avp 297 0x40 32 (vendor_id ++ avp 298 0x40 12 (octets 4 1))

unfoldable pub erred : List Case
erred =
    -- P set, P clear, T set
    case (error_answer 56 three) 0 0 0 0
    ∷ case (with_flags 0x20 56 three) 0 0 0 0
    ∷ case (with_flags 0x70 56 three) 0 0 0 0
    -- R and E, P set and clear; P clear without E, in a request and in an answer
    ∷ case (with_flags 0xE0 56 three) 3008 4 0 0
    ∷ case (with_flags 0xA0 56 three) 3008 4 0 0
    ∷ case (with_flags 0x80 56 three) 3008 4 0 0
    ∷ case (with_flags 0x00 56 three) 3008 4 0 0
    -- 263 first, late, which is told before a missing row, and twice
    ∷ case (error_answer 68 (session ++ three)) 0 0 0 0
    ∷ case (error_answer 44 (host ++ session)) 5008 32 0 263
    ∷ case (error_answer 80 (session ++ session ++ three)) 5009 32 0 263
    -- 264, 296 and 268 missing, the last beside 297; two of them missing; 268 beside 297
    ∷ case (error_answer 44 (session ++ realm)) 5005 44 0 264
    ∷ case (error_answer 44 (host ++ result)) 5005 44 0 296
    ∷ case (error_answer 76 (host ++ realm ++ experimental)) 5005 76 0 268
    ∷ case (error_answer 32 result) 5005 32 0 264
    ∷ case (error_answer 32 host) 5005 32 0 296
    ∷ case (error_answer 88 (three ++ experimental)) 0 0 0 0
    -- each of them twice
    ∷ case (error_answer 68 (three ++ host)) 5009 56 0 264
    ∷ case (error_answer 68 (three ++ realm)) 5009 56 0 296
    ∷ case (error_answer 68 (three ++ result)) 5009 56 0 268
    -- 278, 281, 294, 279, 297 once, 284 twice; each of the five twice
    ∷ case (error_answer 200 (failed ++ three ++ experimental ++ state ++ message ++ reporter ++ proxy_of 32 [] ++ proxy_of 32 []))
    0 0 0 0
    ∷ case (error_answer 80 (three ++ state ++ state)) 5009 68 0 278
    ∷ case (error_answer 80 (three ++ message ++ message)) 5009 68 0 281
    ∷ case (error_answer 80 (three ++ reporter ++ reporter)) 5009 68 0 294
    ∷ case (error_answer 80 (three ++ failed ++ failed)) 5009 68 0 279
    ∷ case (error_answer 120 (three ++ experimental ++ experimental)) 5009 88 0 297
    -- any others in any number, of the dictionary and not; with M a name that it lacks is 5001
    ∷ case (error_answer 104 (three ++ avp 277 0x40 12 (octets 4 1) ++ avp 277 0x40 12 (octets 4 1) ++ avp 301 0 12 (octets 4 0)
    ++ avp 301 0 12 (octets 4 0))) 0 0 0 0
    ∷ case (error_answer 72 (three ++ avp 9999 0 8 [] ++ avp 9999 0 8 [])) 0 0 0 0
    ∷ case (error_answer 64 (three ++ avp 9999 0x40 8 [])) 5001 56 0 9999
    -- two 4207 ask for nothing; their windows are judged, and so is one at depth 1, once the rows are met
    ∷ case (error_answer 156 (three ++ policy_of 28 [] ++ policy_of 72 (window_of 10 11))) 0 0 0 0
    ∷ case (error_answer 156 (three ++ policy_of 28 [] ++ policy_of 72 (window_of 11 10))) 5004 140 vendor_3gpp 4205
    ∷ case (error_answer 100 (window_of 10 10 ++ three)) 5004 48 vendor_3gpp 4205
    ∷ case (error_answer 88 (window_of 11 10 ++ host ++ realm)) 5005 88 0 268
    -- a group's rows: a 284 without 33
    ∷ case (error_answer 76 (three ++ avp 284 0x40 20 (avp 280 0x40 9 (letter 0x68)))) 5005 76 0 33
    ∷ []

-- whether a name has a row in the general form
abbrev pub is_named : Option Admission → Bool
is_named (Some a) = true
is_named None = false

abbrev pub has_row : Entry → Bool
has_row e = is_named (admission ErrorAnswer e.vendor e.code)

-- the codes of the dictionary's entries that have one, in its order
unfoldable pub codes_with_row : List Entry → List ℕ
codes_with_row [] = []
codes_with_row (e ∷ es) = cond (has_row e) (e.code ∷ codes_with_row es) (codes_with_row es)

-- what request [1] leaves as it is
unfoldable pub unmoved : List Case
unmoved =
    -- the application is looked at before the command flags
    case (header 1 20 0xE0 16777346) 3007 8 0 0
    ∷ case (header 1 20 0x20 16777346) 3007 8 0 0
    -- a row is for its vendor: two 268 of 3GPP are others
    ∷ case (error_answer 76 (host ++ realm ++ avp_of_3gpp 268 0x80 16 (octets 4 1) ++ avp_of_3gpp 268 0x80 16 (octets 4 1))) 5005 76 0 268
    -- the walk: M, widths and values of the names that have rows, and of 277
    ∷ case (error_answer 68 (avp 263 0 9 (letter 0x73) ++ three)) 3009 20 0 263
    ∷ case (error_answer 56 (avp 264 0 9 (letter 0x68) ++ realm ++ result)) 3009 20 0 264
    ∷ case (error_answer 56 (host ++ avp 296 0 9 (letter 0x72) ++ result)) 3009 32 0 296
    ∷ case (error_answer 56 (host ++ realm ++ avp 268 0 12 (octets 4 3002))) 3009 44 0 268
    ∷ case (error_answer 56 (host ++ realm ++ avp 268 0x40 9 (letter 1))) 5014 44 0 268
    ∷ case (error_answer 68 (three ++ avp 278 0 12 (octets 4 1))) 3009 56 0 278
    ∷ case (error_answer 68 (three ++ avp 278 0x40 9 (letter 1))) 5014 56 0 278
    ∷ case (error_answer 68 (three ++ avp 279 0 9 (letter 1))) 3009 56 0 279
    ∷ case (error_answer 88 (three ++ avp 297 0 32 (vendor_id ++ avp 298 0x40 12 (octets 4 1)))) 3009 56 0 297
    ∷ case (error_answer 88 (three ++ avp 284 0 32 (avp 280 0x40 9 (letter 0x68) ++ avp 33 0x40 9 (letter 0x73)))) 3009 56 0 284
    ∷ case (error_answer 68 (three ++ avp 277 0x40 12 (octets 4 0))) 5004 56 0 277
    -- the rows of groups
    ∷ case (error_answer 64 (three ++ avp 260 0x40 8 [])) 5005 64 0 266
    ∷ case (error_answer 76 (three ++ avp 297 0x40 20 vendor_id)) 5005 76 0 298
    ∷ case (error_answer 68 (three ++ avp_of_3gpp 628 0x80 12 [])) 5005 68 0 266
    ∷ case (error_answer 68 (three ++ avp_of_3gpp 4207 0xC0 12 [])) 5005 68 vendor_3gpp 4208
    ∷ case (error_answer 116 (three ++ avp_of_3gpp 4204 0xC0 60 (avp_of_3gpp 4206 0xC0 16 (octets 4 10)
    ++ avp_of_3gpp 4206 0xC0 16 (octets 4 10) ++ avp_of_3gpp 4205 0xC0 16 (octets 4 11)))) 5009 84 vendor_3gpp 4206
    -- answers without E and requests, by their own rows, with T too
    ∷ case (with_flags 0x40 68 (session ++ three)) 5005 68 0 260
    ∷ case (with_flags 0x50 68 (session ++ three)) 5005 68 0 260
    ∷ case (with_flags 0x40 120 (answer_begins ++ experimental)) 0 0 0 0
    ∷ case (with_flags 0xC0 88 answer_begins) 5005 88 0 283
    ∷ case (with_flags 0xD0 88 answer_begins) 5005 88 0 283
    ∷ case (with_flags 0xC0 44 (session ++ session)) 5009 32 0 263
    ∷ []
