-- `book::command_at` meets its contract.
use Rattle.std.proofs.Common.{rules}
use Rattle.book.proofs.Cuts.{cut_short, part_whole}
use Rattle.book.proofs.command_at.Goals as goal

pub returns-then-length-lt-HEADER_SIZE : goal.returns-then-length-lt-HEADER_SIZE
returns-then-length-lt-HEADER_SIZE c = cut_short _ _ (search rules)

pub returns : goal.returns
returns c = part_whole c.args.book.now c.args.offset _ c.get.result c.number3-length.ensures.is c.if-length-lt-HEADER_SIZE.false c.get.ensures.lookup
