-- `boundary::talazumir_data` meets its contract.
use native.Mathlib.Omega.{arith}
use Rattle.boundary.proofs.Parts.{empty_part, part_unused, part_outside, part_inside}
use Rattle.boundary.proofs.talazumir_data.Goals as goal
use Rattle.boundary.proofs.talazumir_data.Goals.{else-position-used-via-then-position-used+else-start-length, else-position-used-via-else-position-used}

pub returns-then-start-length : goal.returns-then-start-length
returns-then-start-length c =
    let a = c.args in
    part_inside a.numbers.now a.position a.s.now (omega (arith, c.used.ensures)) c.get-a.result c.get-a.ensures (omega arith)

pub returns-else-position-used : goal.returns-else-position-used
returns-else-position-used c =
    let a = c.args in
    rw (empty_part c.default.result c.default.ensures) (elim c.else-position-used.branch [
      | else-position-used-via-then-position-used+else-start-length w ↦
          part_outside a.numbers.now a.position a.s.now (omega (arith, w.if-position-used.true, c.used.ensures))
          c.get-a.result c.get-a.ensures (omega (arith, w.if-start-length.false))
      | else-position-used-via-else-position-used w ↦
          part_unused a.numbers.now a.position a.s.now (omega (arith, w.if-position-used.false, c.used.ensures))
    ])
