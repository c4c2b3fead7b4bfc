-- `numbers::put_command` meets its contract. With the AVPs of the log from a position on put, the numbers are those of
-- the command's record.
use mathlib.Core.Path.{◌≡◌}
use lib.ListN.{drop}
use Rattle.rules.specs.Record.{record_of}
use Rattle.walk_log.specs.Log.{avps_in}
use Rattle.numbers.specs.Numbers.{numbers_of, put_avps}
use Rattle.numbers.proofs.put_command.Given as goal

abbrev pub invariant-loop-position : goal.invariant-loop-position
invariant-loop-position l =
    put_avps l.numbers l.position (drop l.position (avps_in l.log l.used)) ≡ numbers_of (record_of l.s (avps_in l.log l.count))
