-- `draft::is_well_formed` meets its contract: numbers that are no flags stand for a malformed draft.
use mathlib.Core.Path.{sym, ap, ◌∙◌}
use Rattle.rules.specs.Draft.{is_well_formed}
use Rattle.numbers.proofs.Draft.{draft_fit, draft_unfit}
use Rattle.draft.proofs.is_well_formed.Goals as goal

pub returns-then-flags_fit : goal.returns-then-flags_fit
returns-then-flags_fit c =
    let a = c.args in
    let fit = sym c.flags_fit.ensures ∙ c.if-flags_fit.true in
    c.is_formed.ensures ∙ sym (ap is_well_formed (draft_fit a.numbers.now a.s.now fit))

pub returns-else-flags_fit : goal.returns-else-flags_fit
returns-else-flags_fit c =
    let a = c.args in
    c.if-flags_fit.false ∙ sym (draft_unfit a.numbers.now a.s.now (sym c.flags_fit.ensures ∙ c.if-flags_fit.false))
