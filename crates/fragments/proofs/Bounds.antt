-- The bounds of a length field, and the refusals beyond them: those of a call are those of the run uncut, which Run
-- counts apart in request [7]'s own numbers.
use mathlib.Core.Path.{◌≡◌, refl}
use Prim.Native.Nat.{ℕ}
use Rattle.fragments.specs.Link.{is_length, length_refusal}
use Rattle.fragments.specs.Run.{in_range, stop_verdict}

-- "a length field of 20 to 16,384".
-- Carried by both definitions.
-- Ruled out: a call, in the definition and in the code alike, that refuses a command of just 16,384 octets; one that
-- takes a command of 19.
pub range_is : (n : ℕ) → in_range n ≡ is_length n
unfolding in_range is_length
range_is n = refl

-- "5015 at 1 for a length field under 20 and 7001 at 1 above 16,384".
-- Carried by both definitions.
-- Ruled out: a call that has 5015 for a length field of 20 or above; one that names another place.
pub stop_is : (n : ℕ) → stop_verdict n ≡ length_refusal n
unfolding stop_verdict
stop_is n = refl
