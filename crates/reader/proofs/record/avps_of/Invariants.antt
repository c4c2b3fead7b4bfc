-- `reader::record::avps_of` meets its contract. The places before i hold the AVPs of the log, those from i on are
-- blank.
use mathlib.Core.Path.{◌≡◌}
use Rattle.walk_log.specs.Log.{avps_in}
use Rattle.reader.proofs.Places.{filled}
use Rattle.reader.proofs.record.avps_of.Given as goal

abbrev pub invariant-loop-i : goal.invariant-loop-i
invariant-loop-i l = l.avps ≡ filled (avps_in l.log l.count) l.i
