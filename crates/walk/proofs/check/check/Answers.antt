-- `walk::check::check` meets its contract.
use Rattle.std.proofs.lemmas.Result.{err_from_is_err_and}
use native.Mathlib.Omega.{arith}
use Rattle.walk.specs.Promise.{standing_of}
use Rattle.walk.proofs.Framing.{held_framed}
use Rattle.walk.proofs.Checks.{content_refused, content_passed}
use Rattle.walk.proofs.check.check.Goals as goal

pub content-requires : goal.content-requires
content-requires c =
    let a = c.args in
    let h = held_framed a.w.s.now (standing_of a.w) c.in_ok-a.ensures in
    omega (arith, h)

pub returns-in_err-content : goal.returns-in_err-content
returns-in_err-content c =
    let a = c.args in
    let p = err_from_is_err_and c.from_residual-in_err-content.result c.from_residual-in_err-content.ensures.1 in
    rw (p.1, p.2)
    (content_refused a.table.now a.w.s.now (standing_of a.w) (omega arith) c.in_ok-a.ensures _ c.entry_by-entry.ensures
    c.in_err-content.ensures)

pub returns : goal.returns
returns c =
    let a = c.args in
    content_passed a.table.now a.w.s.now (standing_of a.w) (omega arith) c.in_ok-a.ensures _ c.entry_by-entry.ensures
    c.in_ok-content.ensures (omega (arith, c.entry_by-entry)) _ c.is_group-is_group.ensures
