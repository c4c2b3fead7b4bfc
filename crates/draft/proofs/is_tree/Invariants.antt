-- `draft::is_tree` meets its contract. What is left to test at a position is the whole test.
use mathlib.Core.Path.{◌≡◌}
use mathlib.Core.List.{List}
use Prim.Native.Nat.{ℕ}
use Rattle.draft.proofs.Positions.{tree_left}
use Rattle.draft.proofs.is_tree.Given as goal

abbrev pub invariant-loop-position : goal.invariant-loop-position
invariant-loop-position l =
    (s : List ℕ) → tree_left l.numbers s l.most l.position ≡ tree_left l.numbers s 1 0
