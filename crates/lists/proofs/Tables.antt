-- Laws of the tables of rows: the rule of each, by one equation that is computed over all places of all lists; what a
-- number says; and the search for the first missing row.
use mathlib.Core.Path.{◌≡◌, refl, sym, ap, ◌∙◌}
use Rattle.std.specs.Prelude.{Option, None, Some}
use mathlib.Core.List.{List, [], ◌∷◌, map}
use mathlib.Core.Bool.{Bool, true, false, cond, ◌&&◌}
use mathlib.Core.Logic.{⊎_elim}
use Prim.Native.Nat.{ℕ, zero, suc, ◌+◌, ◌-◌, ◌*◌, ◌/◌, ◌%◌, ◌≤◌, ◌<◌}
use native.Mathlib.Nat.{add-zero, eq-or-lt_of_le}
use native.Mathlib.Omega.{arith}
use borrow.Author.Tests.{leb-false, eq-eqb, ne_eqb}
use lib.Dec.{eqb, leb, ltb}
use lib.ListN.{length, get_or}
use Rattle.rules.specs.declared.Grammar.{Grammar}
use Rattle.rules.specs.declared.Mark.{Mark}
use Rattle.rules.specs.declared.Admission.{Admission}
use Rattle.rules.specs.Verdict.{refused, refuse_if, Outcome, no_refusal}
use Rattle.rules.specs.Rows.{Row, rows_of}
use Rattle.rules.specs.Dictionary.{dictionary}
use Rattle.rules.specs.RowChecks.{missing_from, missing, by_row}
use Rattle.dictionary.proofs.Entries.{said_behind}
use Rattle.dictionary.specs.Entries.{vendor_of, code_of}
use Rattle.lists.specs.ByLog.{admission_at}
use Rattle.lists.specs.Tables.{lists, list_at, ListAt, entry_places, row_places, for_member, mark_at, admission_in, AdmissionTable, Admits, Requirement, requirement_of, free_row, requirement_in, end_of_rows, requirements_from, RowTable, missing_among}

-- ---- what holds at each number below n, as one equation

abbrev pub values_below : {A : Type 0} → ℕ → (ℕ → A) → List A
values_below zero f = []
values_below (suc n) f = f n ∷ values_below n f

same_below : {A : Type 0} (n : ℕ) (f g : ℕ → A) → values_below n f ≡ values_below n g → (k : ℕ) → k < n → f k ≡ g k
same_below zero f g e k h = absurd (omega arith)
same_below (suc n) f g e k h =
    let here : f n ≡ g n = cc in
    let rest : values_below n f ≡ values_below n g = cc in
    ⊎_elim (λ p. rw p here) (λ l. same_below n f g rest k l) (eq-or-lt_of_le (omega arith))

-- ---- the rules

-- what a table says of an entry in the n-th list, and what it is to say
abbrev pub said_by : List ℕ → ℕ → ℕ → Option Admission
said_by table n entry = admission_in (get_or table (n * entry_places + entry) 0)

abbrev pub wanted : ℕ → ℕ → Option Admission
wanted n entry = for_member (admission_at (list_at n) entry)

-- of all entries
abbrev pub of_all : (ℕ → ℕ → Option Admission) → ℕ → List (Option Admission)
of_all says n = values_below entry_places (says n)

pub admission_rule : (table : List ℕ) → values_below (length lists) (of_all (said_by table)) ≡ values_below (length lists) (of_all wanted)
    → AdmissionTable table
admission_rule table e = record {
  rule = λ g n entry at below.
      let list = same_below (length lists) (of_all (said_by table)) (of_all wanted) e n at.below in
      same_below entry_places (said_by table n) (wanted n) list entry below ∙ ap (λ (g : Grammar). for_member (admission_at g entry)) at.is;
}

abbrev pub requirements_in : List ℕ → ℕ → List Requirement
requirements_in table n = requirements_from row_places table (n * row_places)

abbrev pub requirements_at : ℕ → List Requirement
requirements_at n = map requirement_of (rows_of (list_at n))

pub row_rule : (table : List ℕ) → values_below (length lists) (requirements_in table) ≡ values_below (length lists) requirements_at → RowTable table
row_rule table e = record {
  rule = λ g n at.
      same_below (length lists) (requirements_in table) requirements_at e n at.below
      ∙ ap (λ (g : Grammar). map requirement_of (rows_of g)) at.is;
}

-- ---- what a number says

abbrev row_or : Option Admission → ℕ
row_or (Some a) = a.row
row_or None = 0

row_below : (number row : ℕ) (mark : Mark) (none : Bool) → leb row_places (number % 32) ≡ none
    → cond none None (by_row (number % 32) (mark_at (number / 32))) ≡ by_row row mark → row < row_places
row_below number row mark true h e = let z : ◌≡◌ {A = ℕ} 0 1 = cc in absurd (omega arith)
row_below number row mark false h e =
    let p : number % 32 ≡ row = ap row_or e in
    let l = leb-false row_places (number % 32) h in
    omega arith

-- a lookup in the table, and of a number that is no entry's
pub admits_by : (table : List ℕ) → AdmissionTable table → (g : Grammar) (n entry : ℕ) (r : Option Admission) → ListAt g n → entry < entry_places
    → r ≡ said_by table n entry → Admits g entry r
unfolding admission_in
admits_by table is g n entry r at h e = record {
  is = e ∙ is.rule g n entry at h;
  below = λ row mark p. row_below (get_or table (n * entry_places + entry) 0) row mark _ refl (sym e ∙ p);
}

pub admits_none : (g : Grammar) (entry : ℕ) → entry_places ≤ entry → Admits g entry None
unfolding admission_at
admits_none g entry h = record {
  is = ap for_member (sym (said_behind None _ dictionary entry h));
  below = λ row mark p. let z : ◌≡◌ {A = ℕ} 0 1 = cc in absurd (omega arith);
}

-- ---- the first missing row

-- what is required of rows is what they ask for
among_rows : (i : ℕ) (rows : List Row) (counts : List ℕ) (end : ℕ)
    → missing_among i (map requirement_of rows) counts end ≡ missing_from i rows counts end
unfolding missing_among missing_from
among_rows i [] counts end = refl
among_rows i (r ∷ rs) counts end = rw (among_rows (i + 1) rs counts end)

module _ (table counts : List ℕ) (end place : ℕ) where
  -- among the rows that stand from a place on, the k-th and those behind it
  abbrev pub missing_in : ℕ → Outcome
  missing_in k = missing_among k (requirements_from (row_places - k) table (place + k)) counts end

  abbrev number : ℕ → ℕ
  number k = get_or table (place + k) 0

  rows_next : (k : ℕ) → k < row_places → requirements_from (row_places - k) table (place + k)
      ≡ cond (eqb (number k) end_of_rows) []
      (requirement_in (number k) ∷ requirements_from (row_places - (k + 1)) table (place + (k + 1)))
  unfolding requirements_from
  rows_next k h =
      let e : row_places - k ≡ suc (row_places - (k + 1)) = omega arith in
      let p : place + (k + 1) ≡ place + k + 1 = omega arith in
      rw (e, p)

  pub missing_end : (k : ℕ) → k < row_places → number k ≡ end_of_rows → missing_in k ≡ no_refusal
  unfolding missing_among
  missing_end k h e = rw (rows_next k h, eq-eqb (number k) end_of_rows e)

  -- `here` says that the row at the place must be met, and was not
  pub missing_next : (k : ℕ) → k < row_places → (number k ≡ end_of_rows → ⊥) → (here : Bool)
      → (ltb (number k) free_row && eqb (get_or counts k 0) 0) ≡ here
      → missing_in k
      ≡ refuse_if here (refused 5005 end (vendor_of dictionary (number k % 64)) (code_of dictionary (number k % 64))) (missing_in (k + 1))
  unfolding missing_among requirement_in
  missing_next k h d here e = rw (rows_next k h, ne_eqb (number k) end_of_rows d, e)

  pub missing_past : (k : ℕ) → row_places ≤ k → missing_in k ≡ no_refusal
  unfolding missing_among requirements_from
  missing_past k h =
      let e : row_places - k ≡ 0 = omega arith in
      rw e

  -- from a list's own place on
  pub missing_first : RowTable table → (g : Grammar) (n : ℕ) → ListAt g n → place ≡ n * row_places → missing_in 0 ≡ missing g counts end
  missing_first is g n at e = rw (add-zero place, e, is.rule g n at) (among_rows 0 (rows_of g) counts end)
