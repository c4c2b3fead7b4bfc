-- `output::put_octets` meets its contract. With what is left at i put, the octets are those of the whole run.
use mathlib.Core.Path.{refl, sym, ◌∙◌}
use borrow.Author.Tests.{true-leb}
use Rattle.output.proofs.Output.{put_none, put_all, run_all, run_next, run_end}
use Rattle.output.proofs.put_octets.Goals as goal

pub loop-i-init : goal.loop-i-init
loop-i-init c =
    let a = c.args in
    run_all a.s.now a.out.now a.at

pub loop-i-preserved : goal.loop-i-preserved
loop-i-preserved c =
    let a = c.args in
    let l = c.loop-i in
    sym (run_next a.s.now l.out a.at l.i c.loop-i-test.true) ∙ l.invariant

pub returns-after-loop-i : goal.returns-after-loop-i
returns-after-loop-i c =
    let a = c.args in
    let l = c.loop-i in
    sym (run_end a.s.now l.out a.at l.i c.loop-i-test.false)
    ∙ l.invariant
    ∙ put_all a.out.now a.at a.s.now (true-leb _ _ (sym c.if-has_room.true ∙ c.has_room.ensures))

pub returns-else-has_room : goal.returns-else-has_room
returns-else-has_room c =
    let a = c.args in
    put_none a.out.now a.at a.s.now _ refl (sym c.if-has_room.false ∙ c.has_room.ensures)
