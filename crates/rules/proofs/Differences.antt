-- The difference of two natural numbers as an integer: its sign, its bounds, and what leaves it as it is.
use mathlib.Core.Path.{◌≡◌, sym, ap, ◌∙◌}
use Prim.Native.Nat.{ℕ, zero, suc, ◌+◌, ◌-◌, ◌≤◌, ◌<◌}
use native.Mathlib.Omega.{arith}
use borrow.Author.Tests.{ltb-true, ltb-false, lt-ltb, le-ltb}
use lib.Dec.{ltb, le→leb}
use lib.IntN.{ℤ, pos, negsuc, neg_ℤ, nat_abs, ◌+ℤ◌, ◌-ℤ◌, +ℤ_comm, pos-ne-negsuc, neg_ℤ-+ℤ, neg_ℤ-neg_ℤ}
use lib.Signed.{lt_z, ◌≤ℤ◌}
use Rattle.rules.proofs.Walk.{by_cases}

above_is : (a b : ℕ) → b ≤ a → pos a -ℤ pos b ≡ pos (a - b)
above_is a zero h = ap pos (omega arith)
above_is a (suc b) h = rw (le-ltb a (suc b) h)

below_is : (a b : ℕ) → a < b → pos a -ℤ pos b ≡ negsuc (b - suc a)
below_is a zero h = absurd (omega arith)
below_is a (suc b) h = rw (lt-ltb a (suc b) h)

module _ (a b : ℕ) where
  -- what holds of it, by its sign
  by_sign : (C : ℤ → Type 0) → (b ≤ a → C (pos (a - b))) → (a < b → C (negsuc (b - suc a))) → C (pos a -ℤ pos b)
  by_sign C f g =
      by_cases (ltb a b)
      (λ h. let l = ltb-true a b h in rw (below_is a b l) (g l))
      (λ h. let l = ltb-false a b h in rw (above_is a b l) (f l))

  -- above 0 exactly where the first is the greater one
  pub difference_above : ltb b a ≡ lt_z (pos 0) (pos a -ℤ pos b)
  difference_above =
      by_sign (λ z. ltb b a ≡ lt_z (pos 0) z)
      (λ h. by_cases (ltb b a)
      (λ l. let m = ltb-true b a l in rw l (sym (lt-ltb 0 (a - b) (omega arith))))
      (λ l. let m = ltb-false b a l in rw l (sym (le-ltb 0 (a - b) (omega arith)))))
      (λ h. le-ltb b a (omega arith))

  -- 0 only where they are equal
  pub difference_zero : pos a -ℤ pos b ≡ pos 0 → b ≡ a
  difference_zero =
      by_sign (λ z. z ≡ pos 0 → b ≡ a)
      (λ h e. let z : a - b ≡ 0 = ap nat_abs e in omega arith)
      (λ h e. absurd (pos-ne-negsuc 0 (b - suc a) (sym e)))

  pub difference_least : (n : ℕ) → b ≤ suc n → negsuc n ≤ℤ (pos a -ℤ pos b)
  difference_least n k =
      by_sign (λ z. negsuc n ≤ℤ z)
      (λ h. record { le = tt })
      (λ h. record { le = le→leb (b - suc a) n (omega arith) })

  pub difference_most : (n : ℕ) → a ≤ n → (pos a -ℤ pos b) ≤ℤ pos n
  difference_most n k =
      by_sign (λ z. z ≤ℤ pos n)
      (λ h. record { le = le→leb (a - b) n (omega arith) })
      (λ h. record { le = tt })

  pub difference_exchanged : pos b -ℤ pos a ≡ neg_ℤ (pos a -ℤ pos b)
  difference_exchanged =
      +ℤ_comm (pos b) (neg_ℤ (pos a))
      ∙ sym (neg_ℤ-+ℤ (pos a) (neg_ℤ (pos b)) ∙ ap (λ (z : ℤ). neg_ℤ (pos a) +ℤ z) (neg_ℤ-neg_ℤ (pos b)))

  -- what is added to both does not count
  pub difference_moved : (n : ℕ) → pos a -ℤ pos b ≡ pos (a + n) -ℤ pos (b + n)
  difference_moved n =
      by_sign (λ z. z ≡ pos (a + n) -ℤ pos (b + n))
      (λ h.
      let q : a - b ≡ a + n - (b + n) = omega arith in
      ap pos q ∙ sym (above_is (a + n) (b + n) (omega arith)))
      (λ h.
      let q : b - suc a ≡ b + n - suc (a + n) = omega arith in
      ap negsuc q ∙ sym (below_is (a + n) (b + n) (omega arith)))
