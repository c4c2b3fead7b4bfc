-- `draft::sizes::members_size` meets its contract. The size so far and what is left at a position are the whole size.
use mathlib.Core.Path.{◌≡◌, sym, ◌∙◌}
use mathlib.Core.Bool.{true, false, cond}
use mathlib.Core.List.{List}
use Prim.Native.Nat.{ℕ, ◌+◌, ◌*◌, ◌≤◌, ◌<◌, min}
use native.Mathlib.Omega.{arith}
use borrow.Author.Tests.{eq-eqb, ne_eqb}
use lib.Dec.{eqb}
use Rattle.rules.specs.Walk.{most_avps}
use Rattle.rules.specs.Draft.{full_size}
use Rattle.numbers.specs.Numbers.{numbered_count, numbered_avp}
use Rattle.draft.specs.Drafts.{draft_cell}
use Rattle.draft.specs.Promise.{longest_avp}
use Rattle.draft.proofs.Positions.{members_next, members_stop, members_end}
use Rattle.draft.proofs.sizes.members_size.Goals as goal
use Rattle.draft.proofs.sizes.members_size.Goals.{then-at-depth-2, else-at-depth-2}

pub returns-then-at-depth : goal.returns-then-at-depth
returns-then-at-depth c =
    let l = c.loop-position in
    let a = c.args in
    let n = a.numbers.now in
    let above : (numbered_avp n l.position).depth < a.depth = rw (sym c.get-a.ensures) c.if-at-depth.true in
    let used : l.position < min (numbered_count n) most_avps = omega (arith, c.used-position-end.ensures) in
    record {
      is = λ s. omega (arith, l.invariant.whole s, members_stop n s a.depth l.position used above);
      small = omega (arith, l.invariant.small);
    }

pub overflow_add-size : goal.overflow_add-size
overflow_add-size c =
    omega (arith, c.full_size-size.ensures.small, c.used-position-end.ensures)

pub loop-position-preserved : goal.loop-position-preserved
loop-position-preserved c =
    let l = c.loop-position in
    let a = c.args in
    let n = a.numbers.now in
    let i = l.position in
    let deep : a.depth ≤ (numbered_avp n i).depth = rw (sym c.get-a.ensures) c.if-at-depth.false in
    let used : i < min (numbered_count n) most_avps = omega (arith, c.used-position-end.ensures) in
    let here : (s : List ℕ) → c.if-at-depth-2.size
    ≡ l.size + cond (eqb (numbered_avp n i).depth a.depth) (full_size (draft_cell s (numbered_avp n i))) 0 =
    λ s. elim c.if-at-depth-2.branch [
      | then-at-depth-2 w ↦
          let at : eqb (numbered_avp n i).depth a.depth ≡ true =
          rw (sym c.get-a.ensures) (eq-eqb _ _ w.if-at-depth-2.true) in
          w.size-is ∙ rw (at, w.full_size-size.ensures.is s, c.get-a.ensures)
      | else-at-depth-2 w ↦
          let at : eqb (numbered_avp n i).depth a.depth ≡ false =
          rw (sym c.get-a.ensures) (ne_eqb _ _ w.if-at-depth-2.false) in
          w.size-is ∙ rw at (omega arith)
    ] in
    let small : c.if-at-depth-2.size ≤ (i + 1) * longest_avp =
    elim c.if-at-depth-2.branch [
      | then-at-depth-2 w ↦ omega (arith, w.size-is, w.full_size-size.ensures.small, l.invariant.small)
      | else-at-depth-2 w ↦ omega (arith, w.size-is, l.invariant.small)
    ] in
    record {
      below = omega arith;
      small = small;
      whole = λ s. omega (arith, l.invariant.whole s, here s, members_next n s a.depth i used deep);
    }

pub returns-after-loop-position : goal.returns-after-loop-position
returns-after-loop-position c =
    let l = c.loop-position in
    let a = c.args in
    let n = a.numbers.now in
    let end : min (numbered_count n) most_avps ≤ l.position = omega (arith, c.used-position-end.ensures) in
    record {
      is = λ s. omega (arith, l.invariant.whole s, members_end n s a.depth l.position end);
      small = omega (arith, l.invariant.small);
    }
