-- `book::put_lines` meets its contract: before each turn the lines that are left make the listing whole.
use mathlib.Core.Path.{◌∙◌}
use Prim.Native.Nat.{◌+◌}
use native.Mathlib.Omega.{arith}
use Rattle.rules.specs.Lines.{command_line}
use Rattle.lines.specs.Promise.{Put}
use Rattle.lines.proofs.Text.{line_fits}
use Rattle.lines.proofs.Lines.{acceptance_is, command_line_short}
use Rattle.book.proofs.Turns.{first_turn, turn_cut, next_turn, turn_end}
use Rattle.book.proofs.put_lines.Goals as goal

pub loop-offset-init : goal.loop-offset-init
loop-offset-init c = first_turn c.requires

pub returns-in_default : goal.returns-in_default
returns-in_default c =
    let inv = c.loop-offset.invariant in
    let line = line_fits (omega arith) c.put_cut_line.ensures in
    record {
      put = turn_cut inv c.loop-offset-test.true c.in_default.ensures line.put;
      within = omega (arith, line.within, inv.fits, inv.inside, c.requires.short);
    }

pub loop-offset-preserved : goal.loop-offset-preserved
loop-offset-preserved c =
    let o = c.loop-offset in
    let result = c.verdict-v.result in
    let line : Put o.out o.at (command_line (o.commands + 1) o.offset result) c.put_command_line-at.result
    c.put_command_line-at.new.out = (line_fits (omega arith) c.put_command_line-at.ensures).put in
    -- each field of the verdict has 32 bits
    let short =
    command_line_short (o.commands + 1) o.offset result (omega arith) (omega arith) (omega arith)
    (omega arith) (omega arith) (omega arith) in
    next_turn o.invariant c.loop-offset-test.true c.in-Some.ensures
    c.verdict-v.ensures.answer short line
    (c.from-accepted.ensures ∙ acceptance_is result)

pub returns : goal.returns
returns c =
    let o = c.loop-offset in
    let line = line_fits (omega arith) c.put_end_line.ensures in
    record {
      put = turn_end o.invariant c.loop-offset-test.false line.put;
      within = omega (arith, line.within, o.invariant.fits, o.invariant.inside, c.requires.short);
    }
