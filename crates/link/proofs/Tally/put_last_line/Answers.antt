-- `link::Tally::put_last_line` meets its contract.
use Rattle.std.proofs.Common.{arith}
use Rattle.lines.proofs.Text.{line_fits}
use Rattle.link.specs.Listing.{counted}
use Rattle.link.proofs.Puts.{no_line, last_none, last_end, last_cut}
use Rattle.link.proofs.Tally.put_last_line.Goals as goal

pub returns-then-self-ne0 : goal.returns-then-self-ne0
returns-then-self-ne0 c = rw (last_none c.args.self c.if-self-ne0.true) (no_line c.args.text.now 0)

pub returns-then-self-eq0 : goal.returns-then-self-eq0
returns-then-self-eq0 c =
    rw (last_end c.args.self c.if-self-ne0.false c.if-self-eq0.true) (line_fits (omega arith) c.put_end_line.ensures)

pub returns : goal.returns
unfolding counted
returns c =
    rw (last_cut c.args.self c.if-self-ne0.false c.if-self-eq0.false) (line_fits (omega arith) c.put_cut_line.ensures)
