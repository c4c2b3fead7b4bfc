-- `lookup::with_next` meets its contract.
use mathlib.Core.Path.{sym, ◌∙◌}
use native.Mathlib.Omega.{arith}
use Rattle.lookup.proofs.Searches.{next_other, next_here, next_past}
use Rattle.lookup.proofs.with_next.Goals as goal

-- the one that the ordinal says
pub returns-then-so_far-ordinal : goal.returns-then-so_far-ordinal
returns-then-so_far-ordinal c =
    next_here _ _ _ _ _ _ (sym c.matches.ensures ∙ c.if-matches.true) (omega arith)

-- another one of them
pub returns-then-matches : goal.returns-then-matches
returns-then-matches c =
    next_past _ _ _ _ _ _ (sym c.matches.ensures ∙ c.if-matches.true) (λ n. omega arith)

-- none of them
pub returns : goal.returns
returns c =
    next_other _ _ _ _ _ _ (sym c.matches.ensures ∙ c.if-matches.false)
