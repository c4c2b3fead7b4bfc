-- `link::Tally::put_line` meets its contract.
use Rattle.std.proofs.Common.{arith}
use Rattle.lines.proofs.Text.{line_fits}
use Rattle.link.specs.Listing.{counted}
use Rattle.link.proofs.Puts.{line_by_lem}
use Rattle.link.proofs.Tally.put_line.Goals as goal

pub returns-in-Command : goal.returns-in-Command
unfolding counted
returns-in-Command c =
    let a = c.args in
    line_by_lem a.self a.progress _ c.in-Command.is a.text.now a.at _ _
    (line_fits (omega arith) c.put_command_line.ensures)

pub returns-in-Refusal : goal.returns-in-Refusal
unfolding counted
returns-in-Refusal c =
    let a = c.args in
    line_by_lem a.self a.progress _ c.in-Refusal.is a.text.now a.at _ _
    (line_fits (omega arith) c.put_stopped_line.ensures)
