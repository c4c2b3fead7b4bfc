-- Demand 2, its second half: the record of an accepted command, written over the command's octets, is accepted, and
-- what is written is accepted with the same meaning. The record itself has the command's meaning.
use mathlib.Core.Path.{◌≡◌, refl, sym, ap, ◌∙◌}
use mathlib.Core.Bool.{true}
use mathlib.Core.List.{List, [], ◌∷◌, map}
use Prim.Native.Nat.{ℕ, zero, suc, ◌+◌, ◌-◌, ◌^◌, ◌≤◌, ◌<◌, min}
use native.Mathlib.Omega.{arith}
use borrow.Author.Tests.{lt-ltb, le-ltb, le-leb}
use lib.ListN.{length, replicate, length-append, length-replicate}
use lib.Dec.{ltb}
use lib.Seq.{take_at, drop_at}
use Rattle.rules.specs.declared.Avp.{Avp}
use Rattle.rules.specs.declared.Record.{Record}
use Rattle.rules.specs.Octets.{AreOctets}
use Rattle.rules.specs.Verdict.{refused, refuse_if, no_refusal}
use Rattle.rules.specs.Header.{longest_command}
use Rattle.rules.specs.Avp.{end_of}
use Rattle.rules.specs.declared.Entry.{Entry}
use Rattle.rules.specs.Dictionary.{dictionary}
use Rattle.rules.specs.Walk.{most_avps}
use Rattle.rules.specs.Search.{blank}
use Rattle.rules.specs.Command.{command_outcome}
use Rattle.rules.specs.Record.{record_of, reading, recorded}
use Rattle.rules.specs.Meaning.{meaning_of, meaning_over, cell_of}
use Rattle.rules.specs.Wire.{command_octets}
use Rattle.rules.specs.Draft.{own_draft, cells_of, is_blank, all_blank, unused_blank, is_placed, all_placed, name_fits, names_fit}
use Rattle.rules.specs.Writer.{own_outcome, draft_octets, draft_outcome, octets_written}
use Rattle.rules.proofs.Outcomes.{or_pass}
use Rattle.rules.proofs.Walk.{by_cases}
use Rattle.rules.proofs.demands.items.Items.{Item, cell_in, octets_of, step, avp_of, avps_at, All, Fit}
use Rattle.rules.proofs.demands.items.Trees.{is_group_cell}
use Rattle.rules.proofs.demands.items.Sequences.{length-cons, avps_nil, avps_cons, length-avps}
use Rattle.rules.proofs.demands.written.Drafts.{WellFormed, is_well_formed_lem}
use Rattle.rules.proofs.demands.octets.Digits.{number_at_below}
use Rattle.rules.proofs.demands.read.Commands.{AcceptedItems, accepted_items, avps_are, cells_are}
use Rattle.rules.proofs.demands.again.Canonical.{again_long, again_accepted, again_means}

-- ---- the record of some AVPs

module _ (c : List ℕ) (xs : List Avp) (few : length xs ≤ 256) where
  recorded_all : recorded (record_of c xs) ≡ xs
  unfolding record_of
  recorded_all =
      let m : min (length xs) 256 ≡ length xs = omega arith in
      rw m (take_at xs (replicate (most_avps - length xs) blank) (length xs) refl)

  room_all : length (record_of c xs).avps ≡ 256
  unfolding record_of
  room_all =
      length-append xs (replicate (most_avps - length xs) blank)
      ∙ rw (length-replicate {A = Avp} (256 - length xs) blank) (omega arith)

  blanks : (n : ℕ) → all_blank (replicate n blank) ≡ true
  unfolding all_blank is_blank
  blanks zero = refl
  blanks (suc n) = blanks n

  blank_all : unused_blank (record_of c xs) ≡ true
  unfolding record_of
  blank_all =
      ap all_blank (drop_at xs (replicate (most_avps - length xs) blank) (length xs) refl) ∙ blanks (most_avps - length xs)

-- ---- AVPs that were read lie in the octets, and their names fit

module _ (dict : List Entry) (size : ℕ) where
  placed_of : (x : Item) (at : ℕ) → Fit dict x → at + step x ≤ size → is_placed dict size (avp_of at x) ≡ true
  unfolding is_placed
  placed_of x at f h =
      by_cases (is_group_cell dict x.cell)
      (λ g. rw g)
      (λ g.
      let own : length x.cell.octets ≡ x.cell.length = f.data_is ∙ rw g in
      rw (g, le-leb (end_of (avp_of at x)) size (omega arith)))

  placed_all : (xs : List Item) (at : ℕ) → All (Fit dict) xs → at + length (octets_of xs) ≤ size
      → all_placed dict size (avps_at at xs) ≡ true
  unfolding all_placed
  placed_all [] at f h = ap (all_placed dict size) (avps_nil at)
  placed_all (x ∷ xs) at f h =
      let l = length-cons x xs in
      ap (all_placed dict size) (avps_cons at x xs)
      ∙ rw (placed_of x at f.0 (omega arith), placed_all xs (at + step x) f.1 (omega arith))

names_all : (dict : List Entry) (xs : List Item) (at : ℕ) → All (Fit dict) xs → names_fit (avps_at at xs) ≡ true
unfolding names_fit name_fits
names_all dict [] at f = ap names_fit (avps_nil at)
names_all dict (x ∷ xs) at f =
    let e = names_all dict xs (at + step x) f.1 in
    ap names_fit (avps_cons at x xs) ∙ simp (lt-ltb _ _ f.0.vendor_small, lt-ltb _ _ f.0.code_small, e)

-- ---- a command's own record, over its octets

module _ (c : List ℕ) (oct : AreOctets c) (pass : command_outcome c ≡ no_refusal) where
  read : AcceptedItems c
  read = accepted_items c oct pass

  abbrev avps : List Avp
  avps = avps_at 20 read.items

  few_avps : length avps ≤ 256
  few_avps = rw (length-avps 20 read.items) read.few

  record_is : (reading c).«record» ≡ record_of c avps
  unfolding reading
  record_is = rw pass (ap (record_of c) (avps_are c read))

  recorded_is : recorded (reading c).«record» ≡ avps
  recorded_is = ap recorded record_is ∙ recorded_all c avps few_avps

  means_all : meaning_over (record_of c avps) c ≡ meaning_of c
  unfolding record_of
  means_all = rw (recorded_all c avps few_avps, avps_are c read)

  -- the returned record, over the command's octets, has the command's meaning
  pub record_means : meaning_over (reading c).«record» c ≡ meaning_of c
  record_means = ap (λ (r : Record). meaning_over r c) record_is ∙ means_all

  draft_cells_lem : cells_of (own_draft c) ≡ map cell_in read.items
  draft_cells_lem = ap (map (cell_of dictionary c)) (recorded_is ∙ sym (avps_are c read)) ∙ cells_are c read

  -- its numbers fit their places
  numbers_fit : ((record_of c avps).count ≤ 256)
      × ((record_of c avps).hop_by_hop < 2 ^ 32) × ((record_of c avps).end_to_end < 2 ^ 32)
  unfolding record_of
  numbers_fit =
      let enough = read.header.enough in
      (few_avps, number_at_below 4 c 12 oct (omega arith), number_at_below 4 c 16 oct (omega arith))

  draft_formed : WellFormed (own_draft c)
  draft_formed =
      record {
        room = rw record_is (room_all c avps few_avps);
        few = rw record_is numbers_fit.0;
        hop_small = rw record_is numbers_fit.1;
        end_small = rw record_is numbers_fit.2;
        blank = rw record_is (blank_all c avps few_avps);
        placed_all = rw recorded_is
            (placed_all dictionary (length c) read.items 20 read.listed.fit (omega (arith, read.long)));
        tree = rw draft_cells_lem read.listed.tree;
        sizes = rw draft_cells_lem read.listed.sizes;
        names = rw recorded_is (names_all dictionary read.items 20 read.listed.fit);
      }

  pub draft_octets_lem : draft_octets (own_draft c) ≡ command_octets (meaning_of c)
  draft_octets_lem = ap command_octets record_means

  -- written anew, the command is accepted, and means the same
  pub written_accepted : command_outcome (draft_octets (own_draft c)) ≡ no_refusal
  written_accepted = ap command_outcome draft_octets_lem ∙ again_accepted c oct read

  pub written_means : meaning_of (draft_octets (own_draft c)) ≡ meaning_of c
  written_means = ap meaning_of draft_octets_lem ∙ again_means c oct read

  pub written_long : length (draft_octets (own_draft c)) ≡ length c
  written_long = ap length draft_octets_lem ∙ again_long c oct read

  -- the writer's own tests pass, and the reader accepts the octets: what is left is the room
  pub draft_outcome_lem : (room : ℕ)
      → draft_outcome (own_draft c) room
      ≡ refuse_if (ltb room (length (draft_octets (own_draft c)))) (refused 7004 0 0 0) no_refusal
  unfolding draft_outcome own_outcome
  draft_outcome_lem room =
      let l = written_long in
      let within = read.header.within in
      rw (
        is_well_formed_lem (own_draft c) draft_formed,
        le-ltb longest_command (length (draft_octets (own_draft c))) (omega arith),
        written_accepted,
      )
      (or_pass (refuse_if (ltb room (length (draft_octets (own_draft c)))) (refused 7004 0 0 0) no_refusal))

  module _ (out : List ℕ) (room : length c ≤ length out) where
    pub draft_accepted : draft_outcome (own_draft c) (length out) ≡ no_refusal
    draft_accepted =
        let l = written_long in
        draft_outcome_lem (length out)
        ∙ rw (le-ltb (length out) (length (draft_octets (own_draft c))) (omega arith))

    pub draft_written : octets_written (own_draft c) (length out) ≡ draft_octets (own_draft c)
    unfolding octets_written
    draft_written = rw draft_accepted
