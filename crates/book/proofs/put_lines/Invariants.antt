-- Before each turn the lines that are left make the listing whole.
use Prim.Native.Nat.{◌-◌}
use lib.ListN.{length}
use Rattle.book.proofs.Turns.{LinesLeft}
use Rattle.book.proofs.put_lines.Given as goal

abbrev pub invariant-loop-offset : goal.invariant-loop-offset
invariant-loop-offset l = LinesLeft l.book l.initial.out l.start l.out l.at l.offset l.commands l.accepted

abbrev pub decreases-loop-offset : goal.decreases-loop-offset
decreases-loop-offset l = length l.book - l.offset
