-- `lists::counted` meets its contract. The invariant: the places before `k` are counted.
use mathlib.Core.Path.{◌≡◌}
use Rattle.lists.proofs.Counts.{counted_to}
use Rattle.lists.proofs.counted.Given as goal

abbrev pub invariant-loop-k : goal.invariant-loop-k
invariant-loop-k l = l.more ≡ counted_to l.counts l.row l.k
