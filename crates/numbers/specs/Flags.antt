-- 01, The record and the writer: a flag that fits its place on the wire is 0 or 1. R, P, E and T, and M and P of each
-- of the 256 positions, used or not.
use Rattle.std.specs.Prelude.{ℕ, zero, suc, ◌+◌, List, Bool, true, ◌&&◌, get_or, leb}
use Rattle.rules.specs.Walk.{most_avps}
use Rattle.numbers.specs.Numbers.{numbered_place}

abbrev pub is_flag : ℕ → Bool
is_flag n = leb n 1

unfoldable pub head_flags_fit : List ℕ → Bool
head_flags_fit numbers =
    is_flag (get_or numbers 0 0) && is_flag (get_or numbers 1 0) && is_flag (get_or numbers 2 0) && is_flag (get_or numbers 3 0)

unfoldable pub avp_flags_fit : List ℕ → ℕ → Bool
avp_flags_fit numbers i = is_flag (get_or numbers (numbered_place i + 3) 0) && is_flag (get_or numbers (numbered_place i + 4) 0)

-- those of the next n positions from one on
unfoldable pub flags_fit_from : List ℕ → ℕ → ℕ → Bool
flags_fit_from numbers i zero = true
flags_fit_from numbers i (suc n) = avp_flags_fit numbers i && flags_fit_from numbers (i + 1) n

unfoldable pub flags_fit : List ℕ → Bool
flags_fit numbers = head_flags_fit numbers && flags_fit_from numbers 0 most_avps
