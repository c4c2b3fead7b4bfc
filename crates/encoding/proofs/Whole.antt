-- The AVPs of a well-formed draft: data that lies in the octets, and read groups without padding.
use mathlib.Core.Path.{◌≡◌}
use mathlib.Core.Bool.{true, false}
use mathlib.Core.List.{List, [], ◌∷◌}
use Prim.Native.Nat.{ℕ, ◌≤◌}
use borrow.Author.Tests.{leb-true}
use lib.ListN.{length}
use Rattle.rules.specs.declared.Avp.{Avp}
use Rattle.rules.specs.Avp.{end_of}
use Rattle.rules.specs.Dictionary.{dictionary}
use Rattle.rules.specs.Record.{recorded}
use Rattle.rules.specs.Draft.{Draft, is_placed, all_placed, is_well_formed}
use Rattle.rules.proofs.Tests.{and_true}
use Rattle.rules.proofs.demands.items.Items.{has_sizes_under}
use Rattle.rules.proofs.demands.items.Trees.{sized, even_of}
use Rattle.rules.proofs.demands.written.Drafts.{well_formed}
use Rattle.draft.specs.Drafts.{draft_cell, draft_cells, is_group_avp}
use Rattle.encoding.specs.Promise.{AllWhole}

module _ (s : List ℕ) where
  placed_in : (a : Avp) → is_placed dictionary (length s) a ≡ true → is_group_avp a ≡ false → end_of a ≤ length s
  unfolding is_placed
  placed_in a e g = leb-true (end_of a) (length s) (rw g at e)

  all_whole : (xs : List Avp) → all_placed dictionary (length s) xs ≡ true
      → has_sizes_under dictionary (draft_cells s xs) ≡ true → AllWhole s xs
  unfolding all_placed
  all_whole [] p z = tt
  all_whole (a ∷ xs) p z =
      let c = draft_cell s a in
      let cs = draft_cells s xs in
      let q = and_true (is_placed dictionary (length s) a) (all_placed dictionary (length s) xs) p in
      let t = sized dictionary c cs z in
      (record { part = placed_in a q.0; group = even_of dictionary c cs t }, all_whole xs q.1 t.rest)

pub formed_whole : (d : Draft) → is_well_formed d ≡ true → AllWhole d.octets (recorded d.«record»)
formed_whole d form =
    let w = well_formed d form in
    all_whole d.octets (recorded d.«record») w.placed_all w.sizes
