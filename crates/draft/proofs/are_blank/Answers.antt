-- `draft::are_blank` meets its contract.
use borrow.Author.Rules.{rules}
use borrow.Author.Tests.{tests}
use mathlib.Core.Path.{refl, ◌∙◌}
use Prim.Native.Nat.{ℕ, ◌-◌}
use lib.ListN.{drop}
use Rattle.std.proofs.lemmas.Iterator.{YieldsList-from_range}
use Rattle.std.proofs.lemmas.Iterator.Search.{all_from_yields_List}
use Rattle.rules.specs.Walk.{most_avps}
use Rattle.rules.specs.Draft.{is_blank, all_blank}
use Rattle.numbers.specs.Numbers.{numbered_avp, numbered_record}
use Rattle.draft.proofs.Positions.{each_position, blank_next, blank_end}
use Rattle.draft.proofs.are_blank.Goals as goal

pub returns : goal.returns
returns c =
    let n = c.args.numbers.now in
    let from = c.args.from in
    all_from_yields_List (λ (i : ℕ). is_blank (numbered_avp n i)) _ _ _ c.all.ensures.ran
    (YieldsList-from_range from most_avps (most_avps - from) refl refl) (λ x b q k. search (rules, tests))
    ∙ each_position (λ i. is_blank (numbered_avp n i)) (λ i. all_blank (drop i (numbered_record n).avps)) most_avps
    (blank_next n) (blank_end n) from (most_avps - from) refl
