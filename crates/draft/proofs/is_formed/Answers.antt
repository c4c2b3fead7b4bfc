-- `draft::is_formed` meets its contract: the tests in their order.
use mathlib.Core.Path.{◌≡◌, refl, sym, ap, ◌∙◌}
use mathlib.Core.Bool.{◌&&◌}
use Prim.Native.Nat.{ℕ}
use native.Mathlib.Omega.{arith}
use borrow.Author.Tests.{le-leb, lt-leb}
use lib.Dec.{leb}
use lib.ListN.{length, drop}
use Rattle.rules.specs.Dictionary.{dictionary}
use Rattle.rules.specs.Walk.{most_avps}
use Rattle.rules.specs.Draft.{all_blank, all_placed, is_tree, has_sizes}
use Rattle.numbers.specs.Numbers.{numbered_record, numbered_used}
use Rattle.numbers.proofs.Numbers.{count_in}
use Rattle.draft.specs.Drafts.{draft_cells}
use Rattle.draft.proofs.Formed.{and_then, and_else, formed_by}
use Rattle.draft.proofs.is_formed.Goals as goal
use Rattle.draft.proofs.is_formed.Goals.{Joined-are_placed, then-count-le-MOST_AVPS, else-count-le-MOST_AVPS}
use Rattle.draft.proofs.is_formed.Goals.{then-are_blank, else-are_blank, then-are_placed, else-are_placed}

-- the tests before that of the lengths
tests : (c : Joined-are_placed) →
    let n = c.args.numbers.now in
    let s = c.args.s.now in
    let r = numbered_record n in
    c.if-are_placed.value
    ≡ (leb r.count most_avps && all_blank (drop r.count r.avps) && all_placed dictionary (length s) (numbered_used n)
    && is_tree 1 dictionary (draft_cells s (numbered_used n)))
tests c =
    let n = c.args.numbers.now in
    let s = c.args.s.now in
    let r = numbered_record n in
    let count : c.count-count.result ≡ r.count = c.count-count.ensures ∙ sym (count_in n) in
    let blank : c.if-count-le-MOST_AVPS.value ≡ (leb r.count most_avps && all_blank (drop r.count r.avps)) =
    elim c.if-count-le-MOST_AVPS.branch [
      | then-count-le-MOST_AVPS w ↦
          and_then (le-leb r.count most_avps (omega (arith, w.if-count-le-MOST_AVPS.true)))
          (w.value-is ∙ w.are_blank.ensures ∙ ap (λ (k : ℕ). all_blank (drop k r.avps)) count)
      | else-count-le-MOST_AVPS w ↦
          let many = lt-leb r.count most_avps (omega (arith, w.if-count-le-MOST_AVPS.false)) in
          and_else _ many (w.value-is ∙ ap (λ (k : ℕ). leb k most_avps) count)
    ] in
    let placed : c.if-are_blank.value
    ≡ (c.if-count-le-MOST_AVPS.value && all_placed dictionary (length s) (numbered_used n)) =
    elim c.if-are_blank.branch [
      | then-are_blank w ↦ and_then w.if-are_blank.true (w.value-is ∙ w.are_placed.ensures)
      | else-are_blank w ↦ and_else _ w.if-are_blank.false w.value-is
    ] in
    let tree : c.if-are_placed.value
    ≡ (c.if-are_blank.value && is_tree 1 dictionary (draft_cells s (numbered_used n))) =
    elim c.if-are_placed.branch [
      | then-are_placed w ↦ and_then w.if-are_placed.true (w.value-is ∙ w.is_tree.ensures s)
      | else-are_placed w ↦ and_else _ w.if-are_placed.false w.value-is
    ] in
    rw (tree, placed, blank)

pub returns-then-is_tree : goal.returns-then-is_tree
returns-then-is_tree c =
    let n = c.args.numbers.now in
    let s = c.args.s.now in
    and_then c.if-is_tree.true (c.has_sizes.ensures s)
    ∙ rw (tests (goal.at.returns-then-is_tree c).Joined-are_placed) (sym (formed_by n s c.fits-numbers))

pub returns-else-is_tree : goal.returns-else-is_tree
returns-else-is_tree c =
    let n = c.args.numbers.now in
    let s = c.args.s.now in
    and_else (has_sizes dictionary (draft_cells s (numbered_used n))) c.if-is_tree.false refl
    ∙ rw (tests (goal.at.returns-else-is_tree c).Joined-are_placed) (sym (formed_by n s c.fits-numbers))
