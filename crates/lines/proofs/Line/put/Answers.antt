-- `lines::Line::put` meets its contract.
use Rattle.std.proofs.Common.{rules}
use Rattle.lines.proofs.Text.{no_line, line_put}
use Rattle.lines.proofs.Line.put.Goals as goal

pub returns-then-not-has_room : goal.returns-then-not-has_room
returns-then-not-has_room c = no_line (search rules)

pub returns : goal.returns
returns c = line_put (search rules) (search rules) (search rules) (search rules) (search rules)
