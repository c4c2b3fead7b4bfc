-- `link::Tally::after` meets its contract.
use Rattle.std.proofs.Common.{◌∙◌}
use Rattle.lines.proofs.Lines.{acceptance_is}
use Rattle.link.specs.Listing.{counted}
use Rattle.link.proofs.Tally.after.Goals as goal

pub returns-in-Command : goal.returns-in-Command
unfolding counted
returns-in-Command c = rw (c.in-Command.is, c.from.ensures ∙ acceptance_is c.in-Command.v)
