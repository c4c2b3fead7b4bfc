-- `book::listing` meets its contract.
use native.Mathlib.Omega.{arith}
use Rattle.std.proofs.Common.{rules}
use Rattle.rules.specs.Book.{head_line, not_a_book}
use Rattle.lines.specs.Promise.{Put}
use Rattle.book.proofs.Turns.{head_put, listed, listed_none}
use Rattle.book.proofs.listing.Goals as goal

pub returns-then-not-is_book : goal.returns-then-not-is_book
returns-then-not-is_book c =
    let words : Put c.args.out.now 0 not_a_book c.put_first_line.result c.put_first_line.new.out =
    c.put_first_line.ensures in
    listed_none _ _ (search rules) words

pub put_lines-requires : goal.put_lines-requires
put_lines-requires c =
    head_put {r = c.put_first_line-start.result} (search rules) (omega (arith, c.put_first_line-start.ensures.next))

pub returns : goal.returns
returns c =
    let head : Put c.args.out.now 0 head_line c.put_first_line-start.result c.put_first_line-start.new.out =
    c.put_first_line-start.ensures in
    listed _ _ (search rules) head c.put_lines.ensures
