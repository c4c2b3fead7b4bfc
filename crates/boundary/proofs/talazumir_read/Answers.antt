-- `boundary::talazumir_read` meets its contract.
use mathlib.Core.Path.{sym, ◌∙◌}
use Rattle.boundary.proofs.Readings.{read_accepted, read_refused}
use Rattle.boundary.proofs.talazumir_read.Goals as goal

pub returns-in-Ok : goal.returns-in-Ok
returns-in-Ok c =
    let is = c.judged-outcome.ensures in
    let pass = c.in-Ok.is in
    read_accepted _ _ _ (sym is.outcome ∙ pass) c.accepted.ensures _ _ (is.few pass) (is.avps pass)
    c.put_command.ensures

pub returns-in-Err : goal.returns-in-Err
returns-in-Err c =
    read_refused _ _ _ (sym c.judged-outcome.ensures.outcome ∙ c.in-Err.is) c.put_empty.ensures
