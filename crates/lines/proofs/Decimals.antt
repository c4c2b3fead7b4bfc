-- Laws of decimals: the definition's digits are those of the kit's, with their lengths.
use mathlib.Core.Path.{◌≡◌}
use Prim.Native.Nat.{ℕ, ◌^◌, ◌≤◌, ◌<◌}
use native.Mathlib.Omega.{arith}
use lib.ListN.{length}
use Rattle.std.specs.Fmt as fmt
use Rattle.std.proofs.Common.{rules}
use Rattle.std.proofs.lemmas.Fmt.{AppendsLastDigit, decimal_from_appends, length-decimal-le}
use Rattle.rules.specs.Lines.{digits, decimal}

digits_append : AppendsLastDigit digits
unfolding digits
digits_append = search rules

pub decimal_is : (n : ℕ) → n < 2 ^ 64 → decimal n ≡ fmt.decimal n
decimal_is n h = decimal_from_appends digits digits_append 20 n h (length-decimal-le 20 n (omega arith) (omega arith) h)

-- a number of 32 bits
pub decimal_short_32 : (n : ℕ) → n < 2 ^ 32 → length (decimal n) ≤ 10
decimal_short_32 n h = rw (decimal_is n (omega arith)) (length-decimal-le 10 n (omega arith) (omega arith) (omega arith))
