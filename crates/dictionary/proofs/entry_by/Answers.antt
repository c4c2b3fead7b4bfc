-- `dictionary::entry_by` meets its contract.
use mathlib.Core.Path.{sym}
use mathlib.Core.List.{[], ◌∷◌}
use borrow.Author.Tests.{ne_eqb}
use Rattle.rules.specs.Dictionary.{dictionary}
use Rattle.dictionary.specs.Table.{entry_by}
use Rattle.dictionary.proofs.Entries.{absent_vendor}
use Rattle.dictionary.proofs.entry_by.Goals as goal

pub returns-in_default : goal.returns-in_default
unfolding entry_by dictionary
returns-in_default c =
    let vendor = c.args.vendor in
    let rest = c.in_default.in_default-own.rest in
    rw (ne_eqb vendor 0 rest.0.1) (sym (absent_vendor dictionary (10415 ∷ 0 ∷ []) vendor c.args.code tt rest))
