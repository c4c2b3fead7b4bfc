-- Laws of what a search found: a position of the log's AVPs, or none.
use mathlib.Core.Path.{◌≡◌, sym}
use Rattle.std.specs.Prelude.{Option, Some, None}
use Prim.Native.Nat.{ℕ, ◌<◌}
use native.Mathlib.Omega.{arith}
use Rattle.exchange.specs.Positions.{IsFoundAmong}

pub found_at : (f : Option ℕ) (count i : ℕ) → i < count → f ≡ Some i → IsFoundAmong f count (Some i)
found_at f count i h e = record { is = sym e; used = λ j p. let q : i ≡ j = cc in omega arith }

pub found_nothing : (f : Option ℕ) (count : ℕ) → f ≡ None → IsFoundAmong f count None
found_nothing f count e = record { is = sym e; used = λ j p. let z : ◌≡◌ {A = ℕ} 0 1 = cc in absurd (omega arith) }
