-- `numbers::put_command` meets its contract. With the AVPs of the log from a position on put, the numbers are those of
-- the command's record.
use mathlib.Core.Path.{sym, ◌∙◌}
use native.Mathlib.Omega.{arith}
use Rattle.numbers.proofs.Numbers.{numbers_empty}
use Rattle.numbers.proofs.Puts.{put_command, put_logged_lem, logged_end}
use Rattle.numbers.proofs.put_command.Goals as goal

pub loop-position-init : goal.loop-position-init
loop-position-init c =
    let a = c.args in
    put_command a.s.now a.log.now a.count _ _ _ _ c.used-used.ensures c.head_in.ensures
    (c.put_empty.ensures ∙ numbers_empty) c.put_head.ensures

pub loop-position-preserved : goal.loop-position-preserved
loop-position-preserved c =
    let l = c.loop-position in
    put_logged_lem l.numbers l.position _ _ c.put_avp.ensures c.args.log.now c.used-used.result (omega (arith, c.used-used.ensures)) (omega arith) c.get.ensures
    ∙ l.invariant

pub returns : goal.returns
returns c =
    let l = c.loop-position in
    sym (logged_end l.numbers l.position c.args.log.now c.used-used.result (omega (arith, c.used-used.ensures)) (omega arith))
    ∙ l.invariant
