-- Time values (RFC 6733, clause 4.3.1) as request [5] has them: seconds in 32 bits, of which the upper half counts from
-- 1900 and the lower half from 7 February 2036. Their order, and the number of seconds from one to another.
use Rattle.std.specs.Prelude.{ℕ, ◌+◌, ◌*◌, ◌%◌, ◌^◌, Bool, cond, ltb, ℤ, pos, ◌-ℤ◌}

-- half of the values that a Time has
abbrev pub half_range : ℕ
half_range = 2147483648

-- the moment that a Time says, in seconds from the earliest, 20 January 1968, 03:14:08 UTC: "the count with
-- 2,147,483,648 added and the carry dropped"
unfoldable pub moment : ℕ → ℕ
moment time = (time + half_range) % 2 ^ 32

-- the order of two times
unfoldable pub is_before : ℕ → ℕ → Bool
is_before start end = ltb (moment start) (moment end)

-- "the signed number of seconds from start to end"
unfoldable pub seconds : ℕ → ℕ → ℤ
seconds start end = pos (moment end) -ℤ pos (moment start)

-- ---- what is claimed (proofs/demands/Times)

-- the seconds of the 49,710 days, 6 hours, 28 minutes and 16 seconds from the beginning of 1900 to 7 February 2036,
-- 06:28:16 UTC; leap seconds are not counted, as in NTP
abbrev pub up_to2036 : ℕ
up_to2036 = 49710 * 86400 + 6 * 3600 + 28 * 60 + 16

-- the seconds from the beginning of 1900 to the moment of a Time: "by its extension a value with the top bit clear
-- counts from 7 February 2036, 06:28:16 UTC"
abbrev pub since1900 : ℕ → ℕ
since1900 time = cond (ltb time (2 ^ 31)) (up_to2036 + time) time
