-- `reader::judge::judge_by` meets its contract.
use mathlib.Core.Path.{refl, sym}
use Rattle.reader.proofs.Order.{judged_header, header_long, header_short, judged_stopped, judged_whole}
use Rattle.reader.proofs.judge.judge_by.Goals as goal

pub returns-in-Err : goal.returns-in-Err
returns-in-Err c =
    let a = c.args in
    judged_header a.table.now a.s.now a.log.now c.in-Err.ensures

pub lists_outcome-requires : goal.lists_outcome-requires
lists_outcome-requires c =
    let a = c.args in
    let pass = sym c.in_default.ensures in
    (header_long a.table.now a.s.now pass, header_short a.table.now a.s.now pass)

pub returns-in-Ok : goal.returns-in-Ok
returns-in-Ok c =
    let a = c.args in
    judged_whole a.table.now a.s.now (sym c.in_default.ensures) a.log.now _ _ c.in-Ok.ensures _ refl _ c.lists_outcome.ensures

pub returns-in-Err-walk_command : goal.returns-in-Err-walk_command
returns-in-Err-walk_command c =
    let a = c.args in
    judged_stopped a.table.now a.s.now (sym c.in_default.ensures) a.log.now _ _ c.in-Err-walk_command.ensures _ refl
