-- `fragments::take` meets its contract.
use mathlib.Core.Path.{sym, ◌∙◌}
use Rattle.fragments.proofs.Calls.{step_7004, step_7009}
use Rattle.fragments.proofs.Promises.{taken_refused, can-take, taken_onward}
use Rattle.fragments.proofs.take.Goals as goal

pub returns-then-buffer-lt-LONGEST_COMMAND : goal.returns-then-buffer-lt-LONGEST_COMMAND
returns-then-buffer-lt-LONGEST_COMMAND c =
    let a = c.args in
    let e = step_7004 a.state a.fragment.now a.buffer.now c.if-buffer-lt-LONGEST_COMMAND.true in
    taken_refused 7004 a.state a.fragment.now a.buffer.now e a.log.now _ c.refused_call.ensures

pub take_octets-requires : goal.take_octets-requires
take_octets-requires c =
    let a = c.args in
    let yes = sym c.is_usable.ensures ∙ c.if-is_usable.true in
    can-take a.state a.fragment.now a.buffer.now c.if-buffer-lt-LONGEST_COMMAND.false yes

pub returns-then-is_usable : goal.returns-then-is_usable
returns-then-is_usable c =
    let a = c.args in
    let yes = sym c.is_usable.ensures ∙ c.if-is_usable.true in
    taken_onward a.state a.fragment.now a.buffer.now c.if-buffer-lt-LONGEST_COMMAND.false yes a.log.now _ _ _
    c.take_octets.ensures

pub returns : goal.returns
returns c =
    let a = c.args in
    let no = sym c.is_usable.ensures ∙ c.if-is_usable.false in
    let e = step_7009 a.state a.fragment.now a.buffer.now c.if-buffer-lt-LONGEST_COMMAND.false no in
    taken_refused 7009 a.state a.fragment.now a.buffer.now e a.log.now _ c.refused_call-2.ensures
