-- `encoding::encode` meets its contract.
use borrow.Author.Rules.{rules}
use mathlib.Core.Path.{sym, ap, ◌∙◌}
use Rattle.std.specs.Prelude.{Err}
use native.Mathlib.Omega.{arith}
use Rattle.numbers.specs.Draft.{numbered_draft}
use Rattle.encoding.proofs.Encoding.{refused_7006, refused_7001, refused_7004, can_put, put_whole}
use Rattle.encoding.proofs.encode.Goals as goal

pub returns-then-not-is_well_formed : goal.returns-then-not-is_well_formed
returns-then-not-is_well_formed c =
    let a = c.args in
    let unformed = sym c.is_well_formed.ensures ∙ c.if-not-is_well_formed.true in
    refused_7006 (numbered_draft a.numbers.now a.s.now) a.room a.command.now unformed _ (ap Err c.refusal.ensures)

pub returns-then-size-gt-LONGEST_COMMAND : goal.returns-then-size-gt-LONGEST_COMMAND
returns-then-size-gt-LONGEST_COMMAND c =
    let a = c.args in
    let formed = sym c.is_well_formed.ensures ∙ c.if-not-is_well_formed.false in
    refused_7001 a.numbers.now a.s.now formed _ c.command_size-size.ensures a.room a.command.now
    (omega arith) _ (ap Err c.refusal-then-size-gt-LONGEST_COMMAND.ensures)

pub returns-then-size-room : goal.returns-then-size-room
returns-then-size-room c =
    let a = c.args in
    let formed = sym c.is_well_formed.ensures ∙ c.if-not-is_well_formed.false in
    refused_7004 a.numbers.now a.s.now formed _ c.command_size-size.ensures a.room a.command.now
    (omega arith) (omega (arith, c.if-size-room.true)) _
    (ap Err c.refusal-then-size-room.ensures)

pub put_command-requires : goal.put_command-requires
put_command-requires c =
    let a = c.args in
    let formed = sym c.is_well_formed.ensures ∙ c.if-not-is_well_formed.false in
    can_put a.numbers.now a.s.now formed _ c.command_size-size.ensures a.room a.command.now
    (omega arith) (search rules)

pub returns : goal.returns
returns c =
    let a = c.args in
    let formed = sym c.is_well_formed.ensures ∙ c.if-not-is_well_formed.false in
    put_whole a.numbers.now a.s.now formed _ c.command_size-size.ensures a.room a.command.now
    (omega arith) (search rules) (omega (arith, c.if-size-room.false))
    _ c.put_command.ensures
