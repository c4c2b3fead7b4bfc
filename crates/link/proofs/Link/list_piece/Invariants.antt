-- `link::Link::list_piece`: before each turn the text so far, and what is left, make the piece's listing.
use Rattle.std.proofs.Common.{length}
use Rattle.link.proofs.Pieces.{SoFar}
use Rattle.link.proofs.Link.list_piece.Given as goal

abbrev pub invariant-loop-left : goal.invariant-loop-left
invariant-loop-left l = SoFar l.initial.self l.piece l.self l.left

abbrev pub decreases-loop-left : goal.decreases-loop-left
decreases-loop-left l = length l.left
