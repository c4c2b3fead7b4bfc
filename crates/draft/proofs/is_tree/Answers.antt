-- `draft::is_tree` meets its contract. What is left to test at i is the whole test.
use mathlib.Core.Path.{◌≡◌, sym, ◌∙◌}
use mathlib.Core.Bool.{Bool, true, false, ◌&&◌}
use mathlib.Core.List.{List}
use Prim.Native.Nat.{ℕ, ◌+◌, ◌<◌, min}
use native.Mathlib.Omega.{arith}
use Rattle.rules.specs.Dictionary.{dictionary}
use Rattle.rules.specs.Walk.{most_avps}
use Rattle.rules.specs.Draft.{next_depth}
use Rattle.numbers.specs.Numbers.{numbered_count}
use Rattle.draft.specs.Drafts.{draft_cell}
use Rattle.draft.proofs.Positions.{tree_left, tree_next, tree_end}
use Rattle.draft.proofs.is_tree.Goals as goal
use Rattle.draft.proofs.is_tree.Goals.{After-is_in_tree}

-- the invariant, with what the test says of the AVP at the position
next : (c : After-is_in_tree) (s : List ℕ) (b : Bool) → c.is_in_tree.result ≡ b →
    let l = c.loop-position in
    let n = c.args.numbers.now in
    (b && tree_left n s (next_depth dictionary (draft_cell s c.get-a.result)) (l.position + 1)) ≡ tree_left n s 1 0
next c s b e =
    let l = c.loop-position in
    let n = c.args.numbers.now in
    let used : l.position < min (numbered_count n) most_avps = omega (arith, c.used-position-end.ensures) in
    rw (← e, c.is_in_tree.ensures, c.get-a.ensures) (sym (tree_next n s l.most l.position used) ∙ l.invariant s)

pub returns-then-not-is_in_tree : goal.returns-then-not-is_in_tree
returns-then-not-is_in_tree c s =
    next (goal.at.returns-then-not-is_in_tree c).After-is_in_tree s false c.if-not-is_in_tree.true

pub loop-position-preserved : goal.loop-position-preserved
loop-position-preserved c s =
    let here = next (goal.at.loop-position-preserved c).After-is_in_tree s true c.if-not-is_in_tree.false in
    rw (c.next_depth-most.ensures s) here

pub returns : goal.returns
returns c s =
    let l = c.loop-position in
    sym (tree_end c.args.numbers.now s l.most l.position (omega (arith, c.used-position-end.ensures))) ∙ l.invariant s
