-- 01, Order of checks, Rows: the command's list, then each group in walk order; within a list the members in order,
-- then the first missing row. The dictionary and the command's rows are arguments.
use Rattle.std.specs.Prelude.{ℕ, ◌+◌, List, [], ◌∷◌, Bool, true, false, cond, ◌&&◌, get_or, set, replicate, ltb, eqb, Option, Some, None}
use Rattle.rules.specs.declared.Avp.{Avp}
use Rattle.rules.specs.declared.Mark.{Mark}
use Rattle.rules.specs.declared.Mark.TheVariants.{First, FirstIfPresent, Once, AtMostOnce, AnyNumber}
use Rattle.rules.specs.declared.Admission.{Admission}
use Rattle.rules.specs.declared.Grammar.{Grammar}
use Rattle.rules.specs.Verdict.{refused, refuse_if, or_else, Outcome, no_refusal}
use Rattle.rules.specs.Avp.{place_of, end_of}
use Rattle.rules.specs.Rows.{Row, rows_of, admits_others}
use Rattle.rules.specs.declared.Entry.{Entry}
use Rattle.rules.specs.Dictionary.{defined, members_of}

-- a row that admits a name: its position among the rows, and its mark
abbrev pub by_row : ℕ → Mark → Option Admission
by_row row mark = Some (record { row = row; mark = mark })

-- the row that names an AVP, counted from i
unfoldable pub admission_from : ℕ → List Row → ℕ → ℕ → Option Admission
admission_from i [] vendor code = None
admission_from i (r ∷ rs) vendor code =
    cond (eqb vendor r.vendor && eqb code r.code) (by_row i r.mark) (admission_from (i + 1) rs vendor code)

-- the row of a list that names an AVP
abbrev pub admission : Grammar → ℕ → ℕ → Option Admission
admission g vendor code = admission_from 0 (rows_of g) vendor code

-- a row count per list: how often each row has been met. Of the 24 counts the longest list, of 23 rows, uses all but
-- one
abbrev pub none_met : List ℕ
none_met = replicate 24 0

-- the counts with one more member of a row
abbrev pub counted_at : List ℕ → ℕ → List ℕ
counted_at counts row = set counts row (get_or counts row 0 + 1)

-- the counts with one more member, by the row that admits it
abbrev pub counted : List ℕ → Option Admission → List ℕ
counted counts (Some a) = counted_at counts a.row
counted counts None = counts

-- a refusal at an AVP that is there: its first octet, vendor and code
abbrev pub member_fault : ℕ → Avp → Outcome
member_fault number a = refused number (place_of a) a.vendor a.code

-- a member that has a row: `met` says that the row was met before, `first` that the member is the list's first
abbrev pub by_mark : Mark → Bool → Bool → Avp → Outcome
by_mark First met first a = cond met (member_fault 5009 a) (cond first no_refusal (member_fault 5008 a))
by_mark FirstIfPresent met first a = cond met (member_fault 5009 a) (cond first no_refusal (member_fault 5008 a))
by_mark Once met first a = cond met (member_fault 5009 a) no_refusal
by_mark AtMostOnce met first a = cond met (member_fault 5009 a) no_refusal
by_mark AnyNumber met first a = no_refusal

-- a member that is not admitted is 5008, one that exceeds its row 5009
abbrev pub by_admission : Bool → List ℕ → Bool → Avp → Option Admission → Outcome
by_admission others counts first a (Some by) = by_mark by.mark (ltb 0 (get_or counts by.row 0)) first a
by_admission others counts first a None = cond others no_refusal (member_fault 5008 a)

-- one member, by the row that names it
unfoldable pub member_outcome : Grammar → List ℕ → Bool → Avp → Outcome
member_outcome g counts first a = by_admission (admits_others g) counts first a (admission g a.vendor a.code)

-- a row that must be met
abbrev pub is_required : Mark → Bool
is_required First = true
is_required FirstIfPresent = false
is_required Once = true
is_required AtMostOnce = false
is_required AnyNumber = false

-- the first missing row, in the printed order, counted from i, is 5005 at the end of the list
unfoldable pub missing_from : ℕ → List Row → List ℕ → ℕ → Outcome
missing_from i [] counts end = no_refusal
missing_from i (r ∷ rs) counts end =
    refuse_if (is_required r.mark && eqb (get_or counts i 0) 0) (refused 5005 end r.vendor r.code)
    (missing_from (i + 1) rs counts end)

-- of a list's own rows
abbrev pub missing : Grammar → List ℕ → ℕ → Outcome
missing g counts end = missing_from 0 (rows_of g) counts end

-- the members of a list in order, with the counts so far, then the first missing row
unfoldable pub members_outcome : Grammar → ℕ → List ℕ → Bool → List Avp → Outcome
members_outcome g end counts first [] = missing g counts end
members_outcome g end counts first (a ∷ xs) =
    or_else (member_outcome g counts first a)
    (members_outcome g end (counted counts (admission g a.vendor a.code)) false xs)

-- the members at a depth: of the AVPs that follow in walk order, those at that depth, up to the first above it
unfoldable pub members_at : ℕ → List Avp → List Avp
members_at depth [] = []
members_at depth (a ∷ xs) =
    cond (ltb a.depth depth) [] (cond (eqb a.depth depth) (a ∷ members_at depth xs) (members_at depth xs))

-- the list at a depth whose members are among these AVPs
abbrev pub list_outcome : Grammar → ℕ → ℕ → List Avp → Outcome
list_outcome g depth end xs = members_outcome g end none_met true (members_at depth xs)

-- an AVP of the walk with those after it: where it has members, its list
abbrev pub group_outcome : Option Grammar → Avp → List Avp → Outcome
group_outcome (Some g) a xs = list_outcome g (a.depth + 1) (end_of a) xs
group_outcome None a xs = no_refusal

-- each group in walk order
unfoldable pub groups_outcome : List Entry → List Avp → Outcome
groups_outcome dict [] = no_refusal
groups_outcome dict (a ∷ xs) = or_else (group_outcome (members_of (defined dict a)) a xs) (groups_outcome dict xs)

-- the command's list, which ends at `end`, then each group in walk order
unfoldable pub rows_outcome : List Entry → Grammar → ℕ → List Avp → Outcome
rows_outcome dict g end xs = or_else (list_outcome g 1 end xs) (groups_outcome dict xs)
