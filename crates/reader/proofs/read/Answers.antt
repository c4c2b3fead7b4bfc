-- `reader::read` meets its contract.
use mathlib.Core.Path.{sym, ap, ◌∙◌}
use Rattle.rules.specs.Record.{record_of}
use Rattle.reader.proofs.Order.{read_accepted, read_refused}
use Rattle.reader.proofs.read.Goals as goal

pub returns-in-Ok : goal.returns-in-Ok
returns-in-Ok c =
    let s = c.args.s.now in
    let is = c.judge-judged.ensures in
    let pass = c.in-Ok.is in
    read_accepted s (sym is.outcome ∙ pass) _ _ c.accepted.ensures (c.record_of.ensures ∙ ap (record_of s) (is.avps pass))

pub returns-in-Err : goal.returns-in-Err
returns-in-Err c =
    let s = c.args.s.now in
    read_refused s (sym c.judge-judged.ensures.outcome ∙ c.in-Err.is) _ c.empty_record.ensures
