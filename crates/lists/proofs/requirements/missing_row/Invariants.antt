-- `lists::requirements::missing_row` meets its contract. The invariant says what is left: the rows from `k` on.
use mathlib.Core.Path.{◌≡◌}
use Rattle.lists.proofs.Tables.{missing_in}
use Rattle.lists.proofs.requirements.missing_row.Given as goal

abbrev pub invariant-loop-k : goal.invariant-loop-k
invariant-loop-k l = missing_in l.table l.counts l.end l.from l.k ≡ missing_in l.table l.counts l.end l.from 0
