-- What the answer of a search as numbers tells: 256, which is no position, is none.
use mathlib.Core.Path.{◌≡◌, refl, ap}
use Rattle.std.specs.Prelude.{Option, Some, None}
use mathlib.Core.Logic.{◌↔◌}
use mathlib.Core.List.{List}
use Prim.Native.Nat.{ℕ, ◌≤◌}
use native.Mathlib.Omega.{arith}
use lib.ListN.{length}
use Rattle.rules.specs.declared.Avp.{Avp}
use Rattle.rules.specs.Walk.{most_avps}
use Rattle.rules.specs.Search.{search, position_of}
use Rattle.rules.specs.Record.{search_record}
use Rattle.rules.proofs.demands.Found.{search_nth, search_none}
use Rattle.numbers.specs.Numbers.{numbered_used}
use Rattle.numbers.proofs.Positions.{used_many}
use Rattle.boundary.specs.Parts.{search_numbers}

module _ (xs : List Avp) (few : length xs ≤ most_avps) (vendor code ordinal : ℕ) where
  none_by : (f : Option ℕ) → (search xs vendor code ordinal).found ≡ f → position_of f ≡ most_avps → f ≡ None
  none_by (Some i) e p = let h = ((search_nth xs vendor code ordinal i).0 e).within in absurd (omega arith)
  none_by None e p = refl

-- 02 [9] over the boundary: "'None' now means exactly that the ordinal is not below that number".
-- Carried by search_none (rules/proofs/demands/Found).
-- Ruled out: an AVP that is given the number for none.
pub numbers_none : (numbers : List ℕ) (vendor code ordinal : ℕ)
    → ((search_numbers numbers vendor code ordinal).position ≡ most_avps)
    ↔ ((search_numbers numbers vendor code ordinal).number ≤ ordinal)
unfolding search_numbers search_record
numbers_none numbers vendor code ordinal =
    let xs = numbered_used numbers in
    let many = used_many numbers in
    let none = search_none xs vendor code ordinal in (
      λ e. none.0 (none_by xs (omega arith) vendor code ordinal _ refl e),
      λ h. ap position_of (none.1 h),
    )
