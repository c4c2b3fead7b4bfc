-- The AVPs of a draft put out one by one: with what is left at a position put, the octets are those of the whole list.
use mathlib.Core.Path.{◌≡◌, sym, ap, subst, ◌∙◌}
use mathlib.Core.List.{List, [], ◌++◌}
use Prim.Native.Nat.{ℕ, ◌+◌, ◌≤◌, ◌<◌, min}
use native.Mathlib.Omega.{arith}
use lib.ListN.{length, drop, length-append}
use lib.Seq.{sets, length-sets}
use Rattle.rules.specs.declared.Avp.{Avp}
use Rattle.rules.specs.Header.{header_size}
use Rattle.rules.specs.Walk.{most_avps}
use Rattle.rules.specs.Wire.{avp_octets, list_octets}
use Rattle.octets.proofs.Puts.{sets-append}
use Rattle.numbers.specs.Numbers.{numbered_avp, numbered_count, numbered_used}
use Rattle.numbers.proofs.Positions.{used_next, used_end}
use Rattle.draft.specs.Drafts.{draft_cell, draft_cells}
use Rattle.encoding.specs.Promise.{numbered_list, IsPut, IsWhole, AllWhole, CanPut}

module _ (numbers s : List ℕ) (i : ℕ) where
  list_next : i < min (numbered_count numbers) most_avps → list_octets (draft_cells s (drop i (numbered_used numbers)))
      ≡ avp_octets (draft_cell s (numbered_avp numbers i)) ++ list_octets (draft_cells s (drop (i + 1) (numbered_used numbers)))
  unfolding list_octets
  list_next h = ap (λ (xs : List Avp). list_octets (draft_cells s xs)) (used_next numbers i h)

  list_end : min (numbered_count numbers) most_avps ≤ i → list_octets (draft_cells s (drop i (numbered_used numbers))) ≡ []
  unfolding list_octets
  list_end h = ap (λ (xs : List Avp). list_octets (draft_cells s xs)) (used_end numbers i h)

  whole_next : i < min (numbered_count numbers) most_avps → AllWhole s (drop i (numbered_used numbers))
      → IsWhole s (numbered_avp numbers i) × AllWhole s (drop (i + 1) (numbered_used numbers))
  whole_next h z = subst (λ (xs : List Avp). AllWhole s xs) (used_next numbers i h) z

-- what is left at a position, with the output as it stands and the next place in it
pub record Left (numbers s before out : List ℕ) (at i : ℕ) : Type 0 where
  pub whole : AllWhole s (drop i (numbered_used numbers))
  pub room : at + length (list_octets (draft_cells s (drop i (numbered_used numbers)))) ≤ length out
  pub same : sets out at (list_octets (draft_cells s (drop i (numbered_used numbers)))) ≡ sets before header_size (numbered_list numbers s)

module _ (numbers s before : List ℕ) where
  module _ (out : List ℕ) (at i : ℕ) (left : Left numbers s before out at i) where
    pub left_end : min (numbered_count numbers) most_avps ≤ i → out ≡ sets before header_size (numbered_list numbers s)
    left_end h = sym (ap (sets out at) (list_end numbers s i h)) ∙ left.same

    module _ (h : i < min (numbered_count numbers) most_avps) (a : Avp) (is : a ≡ numbered_avp numbers i) where
      next_is : list_octets (draft_cells s (drop i (numbered_used numbers)))
          ≡ avp_octets (draft_cell s a) ++ list_octets (draft_cells s (drop (i + 1) (numbered_used numbers)))
      next_is =
          list_next numbers s i h
          ∙ ap (λ (x : Avp). avp_octets (draft_cell s x) ++ list_octets (draft_cells s (drop (i + 1) (numbered_used numbers)))) (sym is)

      many : length (list_octets (draft_cells s (drop i (numbered_used numbers))))
          ≡ length (avp_octets (draft_cell s a)) + length (list_octets (draft_cells s (drop (i + 1) (numbered_used numbers))))
      many =
          ap length next_is
          ∙ length-append (avp_octets (draft_cell s a)) (list_octets (draft_cells s (drop (i + 1) (numbered_used numbers))))

      pub left_can : CanPut out at a s
      left_can =
          let room = left.room in
          record { whole = rw is (whole_next numbers s i h left.whole).0; room = omega (arith, many) }

      pub left_next : (after : List ℕ) (next : ℕ) → IsPut out at (avp_octets (draft_cell s a)) after next
          → Left numbers s before after next (i + 1)
      left_next after next p =
          let xs = avp_octets (draft_cell s a) in
          let rest = list_octets (draft_cells s (drop (i + 1) (numbered_used numbers))) in
          let kept : length after ≡ length out = ap length p.is ∙ length-sets out at xs in
          record {
            whole = (whole_next numbers s i h left.whole).1;
            room = omega (arith, many, kept, p.ends, left.room);
            same =
                ap (λ (l : List ℕ). sets l next rest) p.is
                ∙ ap (λ (n : ℕ). sets (sets out at xs) n rest) p.ends
                ∙ sym (ap (sets out at) next_is ∙ sets-append out at xs rest)
                ∙ left.same;
          }
