-- A draft's AVPs position by position: each test of a list is that of the AVP at a position and of those behind it.
use native.Mathlib.Omega.{arith}
use Rattle.std.specs.List.{list_all, range_with_len}
use mathlib.Core.Path.{◌≡◌, sym, ap, ◌∙◌}
use mathlib.Core.Bool.{Bool, true, cond, ◌&&◌}
use mathlib.Core.List.{List}
use Prim.Native.Nat.{ℕ, zero, suc, ◌+◌, ◌-◌, ◌≤◌, ◌<◌, min}
use borrow.Author.Tests.{lt-ltb, le-ltb}
use lib.Dec.{leb, eqb}
use lib.ListN.{drop}
use Rattle.rules.specs.declared.Avp.{Avp}
use Rattle.rules.specs.Dictionary.{dictionary}
use Rattle.rules.specs.Walk.{most_avps, deepest}
use Rattle.rules.specs.Draft.{is_blank, all_blank, is_placed, all_placed, next_depth, is_tree, full_size, members_size, has_sizes}
use Rattle.numbers.specs.Numbers.{numbered_record, numbered_avp, numbered_count, numbered_used}
use Rattle.numbers.proofs.Positions.{avps_next, avps_end, used_next, used_end}
use Rattle.draft.specs.Drafts.{draft_cell, draft_cells, has_size}

-- a test of the positions one after the other, from one on, up to an end, is what is left to test there
module _ (test left : ℕ → Bool) (end : ℕ) (next : (i : ℕ) → i < end → left i ≡ (test i && left (i + 1)))
    (done : (i : ℕ) → end ≤ i → left i ≡ true) where
  pub each_position : (i n : ℕ) → n ≡ end - i → list_all test (range_with_len i n) ≡ left i
  each_position i zero e = sym (done i (omega arith))
  each_position i (suc n) e = rw (each_position (i + 1) n (omega arith)) (sym (next i (omega arith)))

module _ (numbers : List ℕ) where
  -- ---- all 256 positions

  pub blank_next : (i : ℕ) → i < most_avps
      → all_blank (drop i (numbered_record numbers).avps)
      ≡ (is_blank (numbered_avp numbers i) && all_blank (drop (i + 1) (numbered_record numbers).avps))
  unfolding all_blank
  blank_next i h = ap all_blank (avps_next numbers i h)

  pub blank_end : (i : ℕ) → most_avps ≤ i → all_blank (drop i (numbered_record numbers).avps) ≡ true
  unfolding all_blank
  blank_end i h = ap all_blank (avps_end numbers i h)

  -- ---- those in use

  pub placed_next : (size i : ℕ) → i < min (numbered_count numbers) most_avps
      → all_placed dictionary size (drop i (numbered_used numbers))
      ≡ (is_placed dictionary size (numbered_avp numbers i) && all_placed dictionary size (drop (i + 1) (numbered_used numbers)))
  unfolding all_placed
  placed_next size i h = ap (all_placed dictionary size) (used_next numbers i h)

  pub placed_end : (size i : ℕ) → min (numbered_count numbers) most_avps ≤ i
      → all_placed dictionary size (drop i (numbered_used numbers)) ≡ true
  unfolding all_placed
  placed_end size i h = ap (all_placed dictionary size) (used_end numbers i h)

  module _ (s : List ℕ) where
    -- what is left of the tree test at a position
    abbrev pub tree_left : ℕ → ℕ → Bool
    tree_left most i = is_tree most dictionary (draft_cells s (drop i (numbered_used numbers)))

    pub tree_next : (most i : ℕ) → i < min (numbered_count numbers) most_avps
        → tree_left most i
        ≡ (leb 1 (numbered_avp numbers i).depth && leb (numbered_avp numbers i).depth most
        && leb (numbered_avp numbers i).depth deepest
        && tree_left (next_depth dictionary (draft_cell s (numbered_avp numbers i))) (i + 1))
    unfolding is_tree
    tree_next most i h = ap (λ (xs : List Avp). is_tree most dictionary (draft_cells s xs)) (used_next numbers i h)

    pub tree_end : (most i : ℕ) → min (numbered_count numbers) most_avps ≤ i → tree_left most i ≡ true
    unfolding is_tree
    tree_end most i h = ap (λ (xs : List Avp). is_tree most dictionary (draft_cells s xs)) (used_end numbers i h)

    -- of the test of the lengths
    abbrev pub sizes_left : ℕ → Bool
    sizes_left i = has_sizes dictionary (draft_cells s (drop i (numbered_used numbers)))

    pub sizes_next : (i : ℕ) → i < min (numbered_count numbers) most_avps
        → sizes_left i
        ≡ (has_size (numbered_avp numbers i) (draft_cells s (drop (i + 1) (numbered_used numbers))) && sizes_left (i + 1))
    unfolding has_sizes
    sizes_next i h = ap (λ (xs : List Avp). has_sizes dictionary (draft_cells s xs)) (used_next numbers i h)

    pub sizes_end : (i : ℕ) → min (numbered_count numbers) most_avps ≤ i → sizes_left i ≡ true
    unfolding has_sizes
    sizes_end i h = ap (λ (xs : List Avp). has_sizes dictionary (draft_cells s xs)) (used_end numbers i h)

    -- of the members' octets
    abbrev pub members_left : ℕ → ℕ → ℕ
    members_left depth i = members_size depth (draft_cells s (drop i (numbered_used numbers)))

    pub members_next : (depth i : ℕ) → i < min (numbered_count numbers) most_avps → depth ≤ (numbered_avp numbers i).depth
        → members_left depth i
        ≡ cond (eqb (numbered_avp numbers i).depth depth) (full_size (draft_cell s (numbered_avp numbers i))) 0
        + members_left depth (i + 1)
    unfolding members_size
    members_next depth i h k =
        ap (λ (xs : List Avp). members_size depth (draft_cells s xs)) (used_next numbers i h)
        ∙ rw (le-ltb (numbered_avp numbers i).depth depth k)

    pub members_stop : (depth i : ℕ) → i < min (numbered_count numbers) most_avps → (numbered_avp numbers i).depth < depth
        → members_left depth i ≡ 0
    unfolding members_size
    members_stop depth i h k =
        ap (λ (xs : List Avp). members_size depth (draft_cells s xs)) (used_next numbers i h)
        ∙ rw (lt-ltb (numbered_avp numbers i).depth depth k)

    pub members_end : (depth i : ℕ) → min (numbered_count numbers) most_avps ≤ i → members_left depth i ≡ 0
    unfolding members_size
    members_end depth i h = ap (λ (xs : List Avp). members_size depth (draft_cells s xs)) (used_end numbers i h)
