-- Laws of row counts: the counts while a member is counted place by place, and that each is at most the number of
-- members seen.
use mathlib.Core.Path.{◌≡◌, refl, sym}
use Rattle.std.specs.Prelude.{Option, None, Some}
use mathlib.Core.List.{List, [], ◌∷◌}
use mathlib.Core.Bool.{Bool, true, false, cond}
use Prim.Native.Nat.{ℕ, zero, suc, ◌+◌, ◌≤◌, ◌<◌}
use native.Mathlib.Nat.{add-zero, zero-add}
use native.Mathlib.Numerals.{add-one}
use native.Mathlib.Omega.{arith}
use borrow.Author.Tests.{eqb-true, eqb-false}
use lib.Dec.{eqb}
use lib.ListN.{length, get_or, set, replicate, length-set}
use lib.Seq.{paste, paste-suc, get_or-set_same, get_or-set_other}
use Rattle.rules.specs.declared.Admission.{Admission}
use Rattle.rules.specs.RowChecks.{counted_at, counted}

-- ---- place by place

module _ (counts : List ℕ) (row : ℕ) where
  -- the counts of which the first k places are counted
  abbrev pub counted_to : ℕ → List ℕ
  counted_to = paste counts 0 (counted_at counts row)

  gained : (k : ℕ) (own : Bool) → eqb k row ≡ own → k < length counts
      → get_or counts k 0 + cond own 1 0 ≡ get_or (counted_at counts row) k 0
  gained k true e h =
      let p : k ≡ row = eqb-true k row e in
      rw (← p) (sym (get_or-set_same counts k _ 0 h))
  gained k false e h = rw add-zero (sym (get_or-set_other counts row k _ 0 (eqb-false k row e)))

  pub counted_next : (k : ℕ) → k < length counts
      → set (counted_to k) k (get_or counts k 0 + cond (eqb k row) 1 0) ≡ counted_to (k + 1)
  counted_next k h =
      rw (gained k (eqb k row) refl h, add-one k)
      (simp zero-add (simp zero-add at (paste-suc counts 0 (counted_at counts row) k 0 (rw (zero-add k) h) (simp length-set h))))

-- ---- at most the number of members seen

set_at_most : (l : List ℕ) (r v n k : ℕ) → ((j : ℕ) → get_or l j 0 ≤ n) → v ≤ n → get_or (set l r v) k 0 ≤ n
set_at_most [] r v n k h hv = h k
set_at_most (x ∷ l) zero v n zero h hv = hv
set_at_most (x ∷ l) zero v n (suc k) h hv = h (suc k)
set_at_most (x ∷ l) (suc r) v n zero h hv = h 0
set_at_most (x ∷ l) (suc r) v n (suc k) h hv = set_at_most l r v n k (λ j. h (suc j)) hv

pub counted_at_most : (counts : List ℕ) (a : Option Admission) (n : ℕ) → ((j : ℕ) → get_or counts j 0 ≤ n)
    → (k : ℕ) → get_or (counted counts a) k 0 ≤ n + 1
counted_at_most counts (Some a) n h k =
    set_at_most counts a.row (get_or counts a.row 0 + 1) (n + 1) k (λ j. omega (arith, h j)) (omega (arith, h a.row))
counted_at_most counts None n h k = omega (arith, h k)

zeros_at_most : (n k : ℕ) → get_or (replicate n 0) k 0 ≤ 0
zeros_at_most zero k = omega arith
zeros_at_most (suc n) zero = omega arith
zeros_at_most (suc n) (suc k) = zeros_at_most n k
