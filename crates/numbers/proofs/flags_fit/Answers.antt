-- `numbers::flags_fit` meets its contract.
use borrow.Author.Rules.{rules}
use borrow.Author.Tests.{tests}
use mathlib.Core.Path.{refl, sym, ◌∙◌}
use Rattle.std.proofs.lemmas.Iterator.{YieldsList-from_range}
use Rattle.std.proofs.lemmas.Iterator.Search.{all_from_yields_List}
use Rattle.numbers.specs.Flags.{avp_flags_fit}
use Rattle.numbers.proofs.Flags.{fit_all, fit_head_not}
use Rattle.numbers.proofs.flags_fit.Goals as goal

pub returns-then-head_flags_fit : goal.returns-then-head_flags_fit
returns-then-head_flags_fit c =
    let n = c.args.numbers.now in
    all_from_yields_List (avp_flags_fit n) _ _ _ c.all.ensures.ran (YieldsList-from_range 0 256 256 refl refl)
    (λ x b q k. search (rules, tests))
    ∙ fit_all n (sym c.head_flags_fit.ensures ∙ c.if-head_flags_fit.true)

pub returns-else-head_flags_fit : goal.returns-else-head_flags_fit
returns-else-head_flags_fit c =
    c.if-head_flags_fit.false ∙ sym (fit_head_not c.args.numbers.now (sym c.head_flags_fit.ensures ∙ c.if-head_flags_fit.false))
