-- Agreement as a claim and as a test that computes: they say the same, of any two lists of octets.
use mathlib.Core.Path.{◌≡◌, refl}
use mathlib.Core.Bool.{true, false}
use mathlib.Core.List.{List}
use mathlib.Core.Logic.{◌↔◌}
use Prim.Native.Nat.{ℕ, zero, suc, ◌<◌}
use native.Mathlib.Omega.{arith}
use borrow.Author.Tests.{eq-eqb, eqb-true, eqb-false}
use lib.Dec.{eqb}
use lib.ListN.{length}
use Rattle.rules.specs.Agreement.{is_padding, compared, Agree, agrees_at, agrees_below, agree}
use Rattle.rules.proofs.Tests.{and_true}
use Rattle.rules.proofs.Walk.{by_cases}

module _ (a b : List ℕ) where
  -- ---- one place

  abbrev SameAt : ℕ → Type 0
  SameAt i = is_padding a i ≡ false → is_padding b i ≡ false → compared a i ≡ compared b i

  at_test : (i : ℕ) → SameAt i → agrees_at a b i ≡ true
  at_test i same =
      by_cases (is_padding a i) (λ h. rw h)
      (λ h. by_cases (is_padding b i) (λ k. rw (h, k)) (λ k. rw (h, k) (eq-eqb _ _ (same h k))))

  test_at : (i : ℕ) → agrees_at a b i ≡ true → SameAt i
  test_at i t h k = eqb-true _ _ (rw (h, k) at t)

  -- ---- the places below n

  below_test : (n : ℕ) → ((i : ℕ) → i < n → SameAt i) → agrees_below a b n ≡ true
  unfolding agrees_below
  below_test zero same = refl
  below_test (suc n) same =
      rw (at_test n (same n (omega arith)), below_test n (λ i h. same i (omega arith)))

  test_below : (n : ℕ) → agrees_below a b n ≡ true → (i : ℕ) → i < n → SameAt i
  unfolding agrees_below
  test_below zero t i h = absurd (omega arith)
  test_below (suc n) t i h =
      let c = and_true (agrees_at a b n) (agrees_below a b n) t in
      by_cases (eqb i n) (λ k. rw (eqb-true i n k) (test_at n c.0))
      (λ k. test_below n c.1 i (omega (arith, eqb-false i n k)))

  -- ---- both ways

  pub agree_tells : Agree a b ↔ (agree a b ≡ true)
  unfolding agree
  agree_tells = (
    λ g. rw (eq-eqb _ _ g.long, below_test (length a) g.same),
    λ t. let c = and_true (eqb (length a) (length b)) (agrees_below a b (length a)) t in
        record { long = eqb-true _ _ c.0; same = test_below (length a) c.1 },
  )
