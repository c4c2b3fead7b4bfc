-- `draft::has_sizes` meets its contract.
use borrow.Author.Rules.{rules}
use borrow.Author.Tests.{tests}
use mathlib.Core.Path.{refl, ◌∙◌}
use Prim.Native.Nat.{ℕ, ◌+◌, min}
use mathlib.Core.Bool.{Bool}
use lib.ListN.{drop}
use native.Mathlib.Omega.{arith}
use Rattle.std.proofs.lemmas.Iterator.{YieldsList-from_range}
use Rattle.std.proofs.lemmas.Iterator.Search.{all_from_yields_List}
use Rattle.rules.specs.Walk.{most_avps}
use Rattle.numbers.specs.Numbers.{numbered_avp, numbered_used, numbered_count}
use Rattle.draft.specs.Drafts.{draft_cells, has_size}
use Rattle.draft.proofs.Positions.{each_position, sizes_left, sizes_next, sizes_end}
use Rattle.draft.proofs.has_sizes.Goals as goal

pub returns : goal.returns
returns c s =
    let n = c.args.numbers.now in
    let used = c.used.result in
    let test : ℕ → Bool = λ i. has_size (numbered_avp n i) (draft_cells s (drop (i + 1) (numbered_used n))) in
    all_from_yields_List test _ _ _ c.all.ensures.ran
    (YieldsList-from_range 0 used used refl (omega arith)) (λ x b q k. search (rules, tests))
    ∙ each_position test (sizes_left n s)
    (min (numbered_count n) most_avps) (sizes_next n s) (sizes_end n s) 0 used (omega (arith, c.used.ensures))
