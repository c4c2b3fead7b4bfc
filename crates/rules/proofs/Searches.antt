-- Laws of a search among AVPs: what its next AVP, and what one AVP more behind the others, make of the positions; and
-- which of the positions an ordinal says.
use mathlib.Core.Path.{◌≡◌, refl, ap, ◌∙◌}
use Rattle.std.specs.Prelude.{Some, None}
use mathlib.Core.Bool.{Bool, true, false, cond}
use mathlib.Core.Logic.{◌↔◌}
use mathlib.Core.List.{List, [], ◌∷◌, ◌++◌}
use Prim.Native.Nat.{ℕ, zero, suc, ◌+◌, ◌≤◌, ◌<◌}
use native.Mathlib.Nat.{add-zero}
use native.Mathlib.Omega.{arith}
use borrow.Author.Tests.{lt-ltb, le-ltb}
use lib.Dec.{ltb}
use lib.ListN.{length}
use Rattle.rules.specs.declared.Avp.{Avp}
use Rattle.rules.specs.Search.{is_at, with_position, positions_from, nth, first_from, how_many}

-- ---- the next AVP

module _ (i floor depth : ℕ) (a : Avp) (xs : List Avp) (vendor code : ℕ) where
  pub positions_above : a.depth < floor → positions_from i floor depth (a ∷ xs) vendor code ≡ []
  unfolding positions_from
  positions_above h = rw (lt-ltb a.depth floor h)

  pub positions_next : floor ≤ a.depth
      → positions_from i floor depth (a ∷ xs) vendor code
      ≡ with_position (is_at a depth vendor code) i (positions_from (i + 1) floor depth xs vendor code)
  unfolding positions_from
  positions_next h = rw (le-ltb a.depth floor h)

  pub positions_here : floor ≤ a.depth → is_at a depth vendor code ≡ true
      → positions_from i floor depth (a ∷ xs) vendor code ≡ i ∷ positions_from (i + 1) floor depth xs vendor code
  positions_here h e = positions_next h ∙ rw e

  pub positions_later : floor ≤ a.depth → is_at a depth vendor code ≡ false
      → positions_from i floor depth (a ∷ xs) vendor code ≡ positions_from (i + 1) floor depth xs vendor code
  positions_later h e = positions_next h ∙ rw e

  pub first_above : a.depth < floor → first_from i floor depth (a ∷ xs) vendor code ≡ None
  first_above h = rw (positions_above h)

  pub first_later : floor ≤ a.depth → is_at a depth vendor code ≡ false
      → first_from i floor depth (a ∷ xs) vendor code ≡ first_from (i + 1) floor depth xs vendor code
  first_later h e = rw (positions_later h e)

pub positions_none : (i floor depth vendor code : ℕ) → positions_from i floor depth [] vendor code ≡ []
unfolding positions_from
positions_none i floor depth vendor code = refl

pub first_none : (i floor depth vendor code : ℕ) → first_from i floor depth [] vendor code ≡ None
first_none i floor depth vendor code = rw (positions_none i floor depth vendor code)

-- the first of them, by the tests of the next AVP
first_of : (above own : Bool) (i : ℕ) (is : List ℕ)
    → nth (cond above [] (with_position own i is)) 0 ≡ cond above None (cond own (Some i) (nth is 0))
first_of true own i is = refl
first_of false true i is = refl
first_of false false i is = refl

pub first_next : (i floor depth : ℕ) (a : Avp) (xs : List Avp) (vendor code : ℕ)
    → first_from i floor depth (a ∷ xs) vendor code
    ≡ cond (ltb a.depth floor) None
    (cond (is_at a depth vendor code) (Some i) (first_from (i + 1) floor depth xs vendor code))
unfolding positions_from
first_next i floor depth a xs vendor code =
    first_of (ltb a.depth floor) (is_at a depth vendor code) i (positions_from (i + 1) floor depth xs vendor code)

-- ---- one AVP more behind the others

with_append : (own : Bool) (i : ℕ) (is js : List ℕ) → with_position own i (is ++ js) ≡ with_position own i is ++ js
with_append true i is js = refl
with_append false i is js = refl

pub positions_more : (xs : List Avp) (i depth : ℕ) (a : Avp) (vendor code : ℕ)
    → positions_from i 0 depth (xs ++ (a ∷ [])) vendor code
    ≡ positions_from i 0 depth xs vendor code ++ with_position (is_at a depth vendor code) (i + length xs) []
unfolding positions_from
positions_more [] i depth a vendor code = rw (le-ltb a.depth 0 (omega arith), add-zero i)
positions_more (x ∷ xs) i depth a vendor code =
    let later = positions_more xs (i + 1) depth a vendor code in
    let place : i + 1 + length xs ≡ i + length (x ∷ xs) = omega arith in
    rw (le-ltb x.depth 0 (omega arith), later, place)
    (with_append (is_at x depth vendor code) i (positions_from (i + 1) 0 depth xs vendor code) _)

-- ---- the one that an ordinal says

pub nth_none : (is : List ℕ) (ordinal : ℕ) → (nth is ordinal ≡ None) ↔ (length is ≤ ordinal)
nth_none [] ordinal = (λ e. omega arith, λ h. refl)
nth_none (i ∷ is) zero = (λ e. let z : ◌≡◌ {A = ℕ} 0 1 = cc in absurd (omega arith), λ h. absurd (omega arith))
nth_none (i ∷ is) (suc ordinal) =
    let later = nth_none is ordinal in (
      λ e. let h = later.0 e in omega arith,
      λ h. later.1 (omega arith),
    )

-- behind the others a last one is what their number says
pub nth_last : (is : List ℕ) (i : ℕ) → nth (is ++ (i ∷ [])) (length is) ≡ Some i
nth_last [] i = refl
nth_last (j ∷ is) i = nth_last is i

-- and another ordinal says what it said without it
pub nth_before : (is : List ℕ) (i ordinal : ℕ) → (length is ≡ ordinal → ⊥) → nth (is ++ (i ∷ [])) ordinal ≡ nth is ordinal
nth_before [] i zero h = absurd (h refl)
nth_before [] i (suc ordinal) h = refl
nth_before (j ∷ is) i zero h = refl
nth_before (j ∷ is) i (suc ordinal) h = nth_before is i ordinal (λ e. h (ap suc e))

-- ---- how many there are

pub positions_number : (xs : List Avp) (i depth vendor code : ℕ)
    → length (positions_from i 0 depth xs vendor code) ≡ how_many depth vendor code xs
unfolding positions_from how_many
positions_number [] i depth vendor code = refl
positions_number (a ∷ xs) i depth vendor code =
    rw (le-ltb a.depth 0 (omega arith))
    (long (is_at a depth vendor code) _ _ (positions_number xs (i + 1) depth vendor code))
  where
    long : (own : Bool) (is : List ℕ) (n : ℕ) → length is ≡ n → length (with_position own i is) ≡ cond own 1 0 + n
    long true is n e = omega (arith, e)
    long false is n e = omega (arith, e)

pub positions_few : (xs : List Avp) (i depth vendor code : ℕ) → length (positions_from i 0 depth xs vendor code) ≤ length xs
unfolding positions_from
positions_few [] i depth vendor code = omega arith
positions_few (a ∷ xs) i depth vendor code =
    rw (le-ltb a.depth 0 (omega arith))
    (few (is_at a depth vendor code) _ (positions_few xs (i + 1) depth vendor code))
  where
    few : (own : Bool) (is : List ℕ) → length is ≤ length xs → length (with_position own i is) ≤ length (a ∷ xs)
    few true is h = omega arith
    few false is h = omega arith
