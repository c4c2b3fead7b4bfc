-- `draft::are_placed` meets its contract.
use borrow.Author.Rules.{rules}
use borrow.Author.Tests.{tests}
use mathlib.Core.Path.{refl, ◌∙◌}
use Prim.Native.Nat.{ℕ, min}
use lib.ListN.{drop}
use native.Mathlib.Omega.{arith}
use Rattle.std.proofs.lemmas.Iterator.{YieldsList-from_range}
use Rattle.std.proofs.lemmas.Iterator.Search.{all_from_yields_List}
use Rattle.rules.specs.Dictionary.{dictionary}
use Rattle.rules.specs.Walk.{most_avps}
use Rattle.rules.specs.Draft.{is_placed, all_placed}
use Rattle.numbers.specs.Numbers.{numbered_avp, numbered_used, numbered_count}
use Rattle.draft.proofs.Positions.{each_position, placed_next, placed_end}
use Rattle.draft.proofs.are_placed.Goals as goal

pub returns : goal.returns
returns c =
    let n = c.args.numbers.now in
    let size = c.args.size in
    let used = c.used-used.result in
    all_from_yields_List (λ (i : ℕ). is_placed dictionary size (numbered_avp n i)) _ _ _ c.all.ensures.ran
    (YieldsList-from_range 0 used used refl (omega arith)) (λ x b q k. search (rules, tests))
    ∙ each_position (λ i. is_placed dictionary size (numbered_avp n i)) (λ i. all_placed dictionary size (drop i (numbered_used n)))
    (min (numbered_count n) most_avps) (placed_next n size) (placed_end n size) 0 used (omega (arith, c.used-used.ensures))
