-- `walk::check::wrong_width` meets its contract: no entry of the dictionary has a fixed width of 0.
use mathlib.Core.Path.{sym, ap, ◌∙◌}
use mathlib.Core.Bool.{not}
use Rattle.rules.specs.Dictionary.{dictionary}
use Rattle.rules.specs.Walk.{wrong_width}
use Rattle.dictionary.proofs.Entries.{any_fits}
use Rattle.walk.proofs.check.wrong_width.Goals as goal

pub returns-else-width-ne0 : goal.returns-else-width-ne0
unfolding wrong_width dictionary
returns-else-width-ne0 c =
    let a = c.args in
    rw c.if-width-ne0.false
    (ap not (sym (any_fits dictionary tt a.entry a.a.length (sym c.width-width.ensures ∙ c.if-width-ne0.false))))
