-- The rows of all lists as two tables of numbers: what a number says, and the rule of each right table, which holds for
-- all lists at once.
use Rattle.std.specs.Prelude.{◌≡◌, ℕ, zero, suc, ◌+◌, ◌*◌, ◌/◌, ◌%◌, ◌<◌, List, [], ◌∷◌, map, Bool, cond, ◌&&◌, length, get_or, eqb, leb, ltb, Option, None, Some}
use Rattle.rules.specs.declared.Mark.{Mark}
use Rattle.rules.specs.declared.Mark.TheVariants.{First, FirstIfPresent, Once, AtMostOnce, AnyNumber}
use Rattle.rules.specs.declared.Grammar.{Grammar}
use Rattle.rules.specs.declared.Grammar.TheVariants.{Request, Answer, ErrorAnswer, VendorSpecificApplicationId, ExperimentalResult, ProxyInfo, SupportedFeatures, TimeWindow, TransferPolicy}
use Rattle.rules.specs.declared.Admission.{Admission}
use Rattle.rules.specs.Verdict.{refused, refuse_if, Outcome, no_refusal}
use Rattle.rules.specs.Rows.{Row, rows_of}
use Rattle.rules.specs.RowChecks.{is_required, by_row}
use Rattle.rules.specs.Dictionary.{dictionary}
use Rattle.dictionary.specs.Entries.{vendor_of, code_of}
use Rattle.lists.specs.ByLog.{admission_at}

-- the lists in the order of the tables
abbrev pub lists : List Grammar
lists =
    Request ∷ Answer ∷ VendorSpecificApplicationId ∷ ExperimentalResult ∷ ProxyInfo ∷ SupportedFeatures ∷ TimeWindow ∷
    TransferPolicy ∷ ErrorAnswer ∷ []

abbrev pub list_at : ℕ → Grammar
list_at n = get_or lists n Request

-- a list stands at this place of the order
pub record ListAt (g : Grammar) (n : ℕ) : Type 0 where
  pub below : n < length lists
  pub is : list_at n ≡ g

-- the places that a list has in the tables: one for each entry of the dictionary, and 24 for its rows
abbrev pub entry_places : ℕ
entry_places = length dictionary

abbrev pub row_places : ℕ
row_places = 24

-- ---- the table over the entries

-- what a mark says of a member; whether the row must be met is no part of it
abbrev pub mark_of_member : Mark → Mark
mark_of_member First = FirstIfPresent
mark_of_member FirstIfPresent = FirstIfPresent
mark_of_member Once = Once
mark_of_member AtMostOnce = AtMostOnce
mark_of_member AnyNumber = AnyNumber

abbrev pub for_member : Option Admission → Option Admission
for_member (Some a) = by_row a.row (mark_of_member a.mark)
for_member None = None

-- such a mark by its number
abbrev pub mark_at : ℕ → Mark
mark_at zero = FirstIfPresent
mark_at (suc zero) = Once
mark_at (suc (suc zero)) = AtMostOnce
mark_at (suc (suc (suc n))) = AnyNumber

-- a number is so many times a mark, and a row; from 24 on it is no row
abbrev pub admission_mark : ℕ
admission_mark = 32

unfoldable pub admission_in : ℕ → Option Admission
admission_in number =
    cond (leb row_places (number % admission_mark)) None
    (by_row (number % admission_mark) (mark_at (number / admission_mark)))

pub record AdmissionTable (table : List ℕ) : Type 0 where
  pub rule : (g : Grammar) (n entry : ℕ) → ListAt g n → entry < entry_places
      → admission_in (get_or table (n * entry_places + entry) 0) ≡ for_member (admission_at g entry)

-- what a lookup promises: the row that names an entry in a list, and that the row has a count
pub record Admits (g : Grammar) (entry : ℕ) (r : Option Admission) : Type 0 where
  pub is : r ≡ for_member (admission_at g entry)
  pub below : (row : ℕ) (mark : Mark) → r ≡ by_row row mark → row < row_places

-- ---- the table of the rows in the printed order

-- what a missing row goes by: the AVP that it names, and whether it must be met
pub record Requirement : Type 0 where
  pub vendor : ℕ
  pub code : ℕ
  pub required : Bool

abbrev pub requirement_of : Row → Requirement
requirement_of r = record { vendor = r.vendor; code = r.code; required = is_required r.mark }

-- a number is an entry, and 64 with it where the row need not be met
abbrev pub free_row : ℕ
free_row = 64

unfoldable pub requirement_in : ℕ → Requirement
requirement_in number =
    record {
      vendor = vendor_of dictionary (number % free_row);
      code = code_of dictionary (number % free_row);
      required = ltb number free_row;
    }

-- behind the last row of a list
abbrev pub end_of_rows : ℕ
end_of_rows = 255

-- the rows that stand at n places, up to the end
unfoldable pub requirements_from : ℕ → List ℕ → ℕ → List Requirement
requirements_from zero table place = []
requirements_from (suc n) table place =
    cond (eqb (get_or table place 0) end_of_rows) []
    (requirement_in (get_or table place 0) ∷ requirements_from n table (place + 1))

pub record RowTable (table : List ℕ) : Type 0 where
  pub rule : (g : Grammar) (n : ℕ) → ListAt g n
      → requirements_from row_places table (n * row_places) ≡ map requirement_of (rows_of g)

-- the first missing one, counted from i
unfoldable pub missing_among : ℕ → List Requirement → List ℕ → ℕ → Outcome
missing_among i [] counts end = no_refusal
missing_among i (q ∷ qs) counts end =
    refuse_if (q.required && eqb (get_or counts i 0) 0) (refused 5005 end q.vendor q.code)
    (missing_among (i + 1) qs counts end)
