-- `link::Link::put_printed` meets its contract.
use Rattle.link.proofs.Pieces.{printed_lines}
use Rattle.link.proofs.Link.put_printed.Goals as goal

pub returns-in-Ok : goal.returns-in-Ok
returns-in-Ok c = printed_lines _ c.in-Ok.count c.in-Ok.is (rw c.in-Ok.is at c.in-Ok.count-test.1) _ _ _ c.list_piece.ensures
