-- `numbers::put` meets its contract. With the AVPs from a position on put, the numbers are those of the record.
use mathlib.Core.Path.{◌≡◌}
use lib.ListN.{drop}
use Rattle.numbers.specs.Numbers.{numbers_of, put_avps}
use Rattle.numbers.proofs.put.Given as goal

abbrev pub invariant-loop-position : goal.invariant-loop-position
invariant-loop-position l =
    put_avps l.numbers l.position (drop l.position l.fn.record.avps) ≡ numbers_of l.fn.record
