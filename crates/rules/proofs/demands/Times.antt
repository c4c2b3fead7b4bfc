-- Request [5]: Time values. Their moments and the seconds between them are those of RFC 6733's extension, and the laws
-- of that number. Above each: the words of 02 that it meets, what carries it, and wrong systems that it rules out. The
-- definitions stand in rules/specs/Times.
use mathlib.Core.Path.{◌≡◌}
use mathlib.Core.Logic.{◌↔◌}
use Prim.Native.Nat.{ℕ, ◌+◌, ◌^◌, ◌<◌}
use native.Mathlib.Omega.{arith}
use borrow.Author.Tests.{ltb-true, ltb-false}
use lib.Dec.{ltb}
use lib.IntN.{pos, neg_ℤ, ◌-ℤ◌, +ℤ_invr}
use lib.Signed.{lt_z, ◌≤ℤ◌}
use Rattle.rules.specs.Times.{moment, is_before, seconds, since1900}
use Rattle.rules.proofs.Walk.{by_cases}
use Rattle.rules.proofs.Differences.{difference_above, difference_zero, difference_least, difference_most, difference_exchanged, difference_moved}

-- ---- the moment of a Time

pub moment_below : (time : ℕ) → moment time < 2 ^ 32
unfolding moment
moment_below time = omega arith

-- "by its extension a value with the top bit clear counts from 7 February 2036, 06:28:16 UTC": moments are counted from
-- 2 ^ 31 seconds after 1900.
-- Carried by the definition of moment.
-- Ruled out: moments that are the raw numbers; an order that breaks at another number than 2,147,483,648.
pub request_5_moment : (time : ℕ) → time < 2 ^ 32 → moment time + 2 ^ 31 ≡ since1900 time
unfolding moment
request_5_moment time h =
    by_cases (ltb time (2 ^ 31))
    (λ k. let l = ltb-true time (2 ^ 31) k in rw k (omega arith))
    (λ k. let l = ltb-false time (2 ^ 31) k in rw k (omega arith))

-- two Time values of one moment are the same
one_moment : (a b : ℕ) → a < 2 ^ 32 → b < 2 ^ 32 → moment a ≡ moment b → a ≡ b
unfolding moment
one_moment a b h k e = omega arith

-- ---- the number of seconds

module _ (start end : ℕ) where
  -- "the signed number of seconds from start to end of two Time values": from the one moment after 1900 to the other.
  -- Carried by request_5_moment.
  -- Ruled out: the difference of the raw numbers; the seconds of the nearer way round.
  pub request_5_seconds : start < 2 ^ 32 → end < 2 ^ 32
      → seconds start end ≡ pos (since1900 end) -ℤ pos (since1900 start)
  unfolding seconds
  request_5_seconds h k =
      rw (← request_5_moment start h, ← request_5_moment end k) (difference_moved (moment end) (moment start) (2 ^ 31))

  -- "0 for equal ones", and for no others.
  -- Carried by one_moment and difference_zero (Differences).
  -- Ruled out: a number that counts both ends of a window; an add that stays at the greatest number, so that the
  -- upper half is one moment.
  pub request_5_equal : start < 2 ^ 32 → end < 2 ^ 32 → (seconds start end ≡ pos 0) ↔ (start ≡ end)
  unfolding seconds
  request_5_equal h k = (
    λ e. one_moment start end h k (difference_zero (moment end) (moment start) e),
    λ e. rw e (+ℤ_invr (pos (moment end))),
  )

  -- "negative for a reversed window": the opposite when the two are exchanged.
  -- Carried by difference_exchanged (Differences).
  -- Ruled out: a number without a sign; one of 32 bits, which is -2,147,483,648 both ways.
  pub request_5_exchanged : seconds end start ≡ neg_ℤ (seconds start end)
  unfolding seconds
  request_5_exchanged = difference_exchanged (moment end) (moment start)

  -- "between -4,294,967,295 and 4,294,967,295".
  -- Carried by the bound of a moment.
  -- Ruled out: the extension the other way round, by which 0 to 4,294,967,295 would be 8,589,934,591; milliseconds.
  pub request_5_bounds : (neg_ℤ (pos 4294967295) ≤ℤ seconds start end) × (seconds start end ≤ℤ pos 4294967295)
  unfolding seconds
  request_5_bounds =
      let s = moment_below start in
      let e = moment_below end in (
        difference_least (moment end) (moment start) 4294967294 (omega arith),
        difference_most (moment end) (moment start) 4294967295 (omega arith),
      )

  -- "A window is right exactly when this number is above 0".
  -- Carried by difference_above (Differences).
  -- Ruled out: an order of raw numbers; an empty window that is right; one of more than half the range that is not.
  pub request_5_right : is_before start end ≡ lt_z (pos 0) (seconds start end)
  unfolding is_before seconds
  request_5_right = difference_above (moment end) (moment start)
