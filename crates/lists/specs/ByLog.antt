-- The row checks by the numbers that a log holds: a member's row by the number of its entry, the next member by the
-- position after the last descendant. Of the log of a walk they say what document 01 says of its AVPs (proofs/Walked);
-- for any other numbers they are defined all the same.
use Rattle.std.specs.Prelude.{ℕ, zero, suc, ◌+◌, ◌-◌, min, List, [], ◌∷◌, Bool, true, false, cond, ltb, Option, Some, None}
use Rattle.rules.specs.declared.Admission.{Admission}
use Rattle.rules.specs.declared.Grammar.{Grammar}
use Rattle.rules.specs.Verdict.{or_else, Outcome, no_refusal}
use Rattle.rules.specs.Avp.{end_of}
use Rattle.rules.specs.Rows.{admits_others}
use Rattle.rules.specs.Dictionary.{dictionary, members_of}
use Rattle.rules.specs.RowChecks.{admission, none_met, counted, by_admission, missing}
use Rattle.dictionary.specs.Entries.{said_at, definition_at}
use Rattle.walk_log.specs.Log.{Logged}

-- the row of a list that names the entry with a number; none where no entry has it
unfoldable pub admission_at : Grammar → ℕ → Option Admission
admission_at g = said_at None (λ d. admission g d.vendor d.code) dictionary

-- the members of a list in order: the one at position i, the one behind its last descendant, and so on, before position
-- `stop`. The first argument bounds the steps; as many as there are positions are enough
unfoldable pub logged_members : ℕ → (ℕ → Logged) → ℕ → ℕ → List Logged
logged_members zero at i stop = []
logged_members (suc n) at i stop = cond (ltb i stop) (at i ∷ logged_members n at (at i).after stop) []

-- members in order, with the counts so far, then the first missing row
unfoldable pub members_by : Grammar → ℕ → List ℕ → Bool → List Logged → Outcome
members_by g end counts first [] = missing g counts end
members_by g end counts first (l ∷ ls) =
    or_else (by_admission (admits_others g) counts first l.avp (admission_at g l.entry))
    (members_by g end (counted counts (admission_at g l.entry)) false ls)

-- the list whose members stand from position i on, before position `stop`
abbrev pub list_by : (ℕ → Logged) → Grammar → ℕ → ℕ → ℕ → Outcome
list_by at g end i stop = members_by g end none_met true (logged_members (stop - i) at i stop)

-- behind the last descendant of the AVP at position i of `count`
abbrev pub family_end : (ℕ → Logged) → ℕ → ℕ → ℕ
family_end at count i = min (at i).after count

-- the AVP at position i of `count`: where it is a group, its list
abbrev pub group_by : (ℕ → Logged) → ℕ → ℕ → Option Grammar → Outcome
group_by at count i (Some g) = list_by at g (end_of (at i).avp) (i + 1) (family_end at count i)
group_by at count i None = no_refusal

-- what is said at a position by its entry
abbrev pub group_at : (ℕ → Logged) → ℕ → ℕ → Outcome
group_at at count i = group_by at count i (members_of (definition_at dictionary (at i).entry))

-- the first fault of what is said at n positions from i on
unfoldable pub first_fault : (ℕ → Outcome) → ℕ → ℕ → Outcome
first_fault said zero i = no_refusal
first_fault said (suc n) i = or_else (said i) (first_fault said n (i + 1))

-- the command's list, which ends at `end`, then each group in walk order
unfoldable pub rows_by : (ℕ → Logged) → Grammar → ℕ → ℕ → Outcome
rows_by at g end count = or_else (list_by at g end 0 count) (first_fault (group_at at count) count 0)
