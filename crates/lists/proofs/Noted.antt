-- Laws of the first positions that are kept while a list is judged: one member, what is left of a list, and its end.
use mathlib.Core.Path.{◌≡◌, refl, sym, ap, ◌∙◌}
use mathlib.Core.List.{List}
use mathlib.Core.Bool.{Bool, true, false, cond}
use Prim.Native.Nat.{ℕ, zero, suc, ◌-◌, ◌≤◌, ◌<◌, min}
use native.Mathlib.Omega.{arith}
use borrow.Author.Tests.{lt-ltb, le-ltb, ltb-true}
use lib.Dec.{ltb}
use lib.ListN.{length, get_or, set, length-set}
use Rattle.rules.specs.Dictionary.{dictionary}
use Rattle.walk_log.specs.Log.{Logged}
use Rattle.lists.specs.Firsts.{noted, firsts_from}

-- ---- one member

module _ (firsts : List ℕ) (entry i : ℕ) where
  pub noted_none : 48 ≤ entry → noted firsts entry i ≡ firsts
  unfolding noted dictionary
  noted_none h = rw (le-ltb entry 48 h)

  pub noted_at : entry < 48 → noted firsts entry i ≡ set firsts entry (min (get_or firsts entry 0) i)
  unfolding noted dictionary
  noted_at h = rw (lt-ltb entry 48 h)

-- as many places as before
pub length-noted : (firsts : List ℕ) (entry i : ℕ) → length (noted firsts entry i) ≡ length firsts
unfolding noted
length-noted firsts entry i = by_test (ltb entry (length dictionary))
  where
    by_test : (b : Bool) → length (cond b (set firsts entry (min (get_or firsts entry 0) i)) firsts) ≡ length firsts
    by_test true = length-set firsts entry _
    by_test false = refl

-- ---- what is left of a list

module _ (at : ℕ → Logged) (stop : ℕ) where
  pub firsts_none : (n i : ℕ) (firsts : List ℕ) → stop ≤ i → firsts_from n at i stop firsts ≡ firsts
  unfolding firsts_from
  firsts_none zero i firsts h = refl
  firsts_none (suc n) i firsts h = rw (le-ltb i stop h)

  -- before the end, the member at the position is noted, then those behind its last descendant
  pub firsts_on : (n i : ℕ) (firsts : List ℕ) (l : Logged) → i < stop → at i ≡ l
      → firsts_from (suc n) at i stop firsts ≡ firsts_from n at l.after stop (noted firsts l.entry i)
  unfolding firsts_from
  firsts_on n i firsts l h e = rw (lt-ltb i stop h, e)

  -- where each step goes on, enough steps give the same positions
  module _ (onward : (i : ℕ) → i < stop → i < (at i).after) where
    firsts_again : (n m i : ℕ) (firsts : List ℕ) (more : Bool) → ltb i stop ≡ more
        → (i < stop → firsts_from n at (at i).after stop (noted firsts (at i).entry i)
        ≡ firsts_from m at (at i).after stop (noted firsts (at i).entry i))
        → firsts_from (suc n) at i stop firsts ≡ firsts_from (suc m) at i stop firsts
    unfolding firsts_from
    firsts_again n m i firsts true e same = rw e (same (ltb-true i stop e))
    firsts_again n m i firsts false e same = rw e

    firsts_enough : (n m i : ℕ) (firsts : List ℕ) → stop - i ≤ n → stop - i ≤ m
        → firsts_from n at i stop firsts ≡ firsts_from m at i stop firsts
    firsts_enough zero m i firsts h k = firsts_none zero i firsts (omega arith) ∙ sym (firsts_none m i firsts (omega arith))
    firsts_enough (suc n) zero i firsts h k = firsts_none (suc n) i firsts (omega arith) ∙ sym (firsts_none zero i firsts (omega arith))
    firsts_enough (suc n) (suc m) i firsts h k =
        firsts_again n m i firsts (ltb i stop) refl
        (λ l. firsts_enough n m (at i).after (noted firsts (at i).entry i) (omega (arith, onward i l)) (omega (arith, onward i l)))

    -- the member at the position, and those behind it
    pub firsts_next : (i : ℕ) (firsts : List ℕ) → i < stop → (entry after : ℕ) → entry ≡ (at i).entry → after ≡ (at i).after
        → firsts_from (stop - i) at i stop firsts ≡ firsts_from (stop - after) at after stop (noted firsts entry i)
    firsts_next i firsts h entry after e f =
        let n : stop - i ≡ suc (stop - i - 1) = omega arith in
        ap (λ (n : ℕ). firsts_from n at i stop firsts) n
        ∙ firsts_on (stop - i - 1) i firsts (at i) h refl
        ∙ firsts_enough (stop - i - 1) (stop - (at i).after) (at i).after (noted firsts (at i).entry i) (omega (arith, onward i h)) (omega arith)
        ∙ rw (e, f)
