-- Laws of the flags of a record as numbers, position by position.
use mathlib.Core.Path.{◌≡◌, refl}
use mathlib.Core.Bool.{true, false}
use mathlib.Core.List.{List}
use Prim.Native.Nat.{ℕ, zero, suc, ◌+◌}
use Rattle.std.specs.List.{list_all, range_with_len}
use Rattle.rules.specs.Walk.{most_avps}
use Rattle.numbers.specs.Flags.{head_flags_fit, avp_flags_fit, flags_fit_from, flags_fit}

pub fit_each : (numbers : List ℕ) (i n : ℕ) → list_all (avp_flags_fit numbers) (range_with_len i n) ≡ flags_fit_from numbers i n
unfolding flags_fit_from
fit_each numbers i zero = refl
fit_each numbers i (suc n) = rw (fit_each numbers (i + 1) n)

pub fit_all : (numbers : List ℕ) → head_flags_fit numbers ≡ true
    → list_all (avp_flags_fit numbers) (range_with_len 0 most_avps) ≡ flags_fit numbers
unfolding flags_fit
fit_all numbers e = rw e (fit_each numbers 0 most_avps)

pub fit_head_not : (numbers : List ℕ) → head_flags_fit numbers ≡ false → flags_fit numbers ≡ false
unfolding flags_fit
fit_head_not numbers e = rw e
