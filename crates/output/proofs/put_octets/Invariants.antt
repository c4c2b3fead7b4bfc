-- `output::put_octets` meets its contract. With what is left at i put, the octets are those of the whole run.
use mathlib.Core.Path.{◌≡◌}
use lib.Seq.{sets}
use Rattle.output.proofs.Output.{run_left}
use Rattle.output.proofs.put_octets.Given as goal

abbrev pub invariant-loop-i : goal.invariant-loop-i
invariant-loop-i l =
    run_left l.s l.out l.at l.i ≡ sets l.initial.out l.at l.s
