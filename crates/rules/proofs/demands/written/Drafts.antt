-- A draft that is well formed and not too long has a meaning that can be written; if the reader accepts its octets,
-- they have the draft's meaning.
use mathlib.Core.Path.{◌≡◌, refl, sym, ap, ◌∙◌}
use Rattle.rules.specs.Verdict.{no_refusal}
use mathlib.Core.Bool.{true, cond, ◌&&◌}
use mathlib.Core.List.{List, [], ◌∷◌, map}
use Prim.Native.Nat.{ℕ, ◌+◌, ◌^◌, ◌≤◌, ◌<◌, min}
use native.Mathlib.Omega.{arith}
use borrow.Author.Tests.{ltb-true, leb-true, eqb-true, lt-ltb, le-leb, eq-eqb}
use lib.Dec.{ltb}
use lib.ListN.{length, take, drop, length-append, length-drop, length-replicate, length-map}
use lib.Seq.{length-take-le}
use Rattle.rules.specs.declared.Avp.{Avp}
use Rattle.rules.specs.declared.Record.{Record}
use Rattle.rules.specs.Header.{longest_command}
use Rattle.rules.specs.Avp.{header_of, end_of}
use Rattle.rules.specs.declared.Entry.{Entry}
use Rattle.rules.specs.Dictionary.{dictionary}
use Rattle.rules.specs.Walk.{most_avps}
use Rattle.rules.specs.Command.{command_outcome}
use Rattle.rules.specs.Record.{recorded}
use Rattle.rules.specs.Meaning.{Cell, cell_of, meaning_of}
use Rattle.rules.specs.Wire.{has_vendor, avp_octets, list_octets}
use Rattle.rules.specs.Draft.{Draft, cells_of, draft_meaning, has_room, count_fits, unused_blank, is_placed, all_placed, is_tree, has_sizes, identifiers_fit, name_fits, names_fit, fits_wire, is_well_formed}
use Rattle.rules.specs.Writer.{draft_octets}
use Rattle.rules.proofs.Octets.{padded_least}
use Rattle.rules.proofs.Tests.{and_true}
use Rattle.rules.proofs.Walk.{by_cases}
use Rattle.rules.proofs.Commands.{passed_command}
use Rattle.rules.proofs.demands.items.Items.{All, Fit, own_size, has_sizes_under, Listed}
use Rattle.rules.proofs.demands.items.Trees.{is_group_cell, tree_over, Sized, sized, own_is, size_of, size_nil, size_cons, under_most, even_of}
use Rattle.rules.proofs.demands.items.Sequences.{length-header}
use Rattle.rules.proofs.demands.items.Members.{sizes_same}
use Rattle.rules.proofs.demands.written.Headers.{command_long}
use Rattle.rules.proofs.demands.written.Writing.{zeroed, cells_zeroed, Writable, meaning_written}

module _ (dict : List Entry) (s : List ℕ) where
  -- an AVP's data is as long as it says, where it lies in the octets; a read group has none of its own
  data_long : (a : Avp) → is_placed dict (length s) a ≡ true
      → length (cell_of dict s a).octets ≡ cond (is_group_cell dict (cell_of dict s a)) 0 a.length
  unfolding is_placed
  data_long a h =
      by_cases (is_group_cell dict (cell_of dict s a))
      (λ g. rw g)
      (λ g.
      let l : end_of a ≤ length s = leb-true _ _ (rw g at h) in
      rw g (length-take-le a.length (drop a.start s) (rw length-drop (omega arith))))

  placed_first : (a : Avp) (xs : List Avp) → all_placed dict (length s) (a ∷ xs) ≡ true
      → (is_placed dict (length s) a ≡ true) × (all_placed dict (length s) xs ≡ true)
  unfolding all_placed
  placed_first a xs h = and_true (is_placed dict (length s) a) (all_placed dict (length s) xs) h

  avp_long : (a : Avp) (cs : List Cell) → is_placed dict (length s) a ≡ true → Sized dict (cell_of dict s a) cs
      → length (avp_octets (cell_of dict s a)) ≡ own_size dict (cell_of dict s a)
  unfolding avp_octets
  avp_long a cs h t =
      simp (length-append, length-header, length-replicate)
      (own_is dict (cell_of dict s a) _ _ (data_long a h) refl (even_of dict (cell_of dict s a) cs t))

  -- AVPs that lie in the octets, with read groups as long as what is under them, have the octets that their sizes say
  pub placed_long : (xs : List Avp) → all_placed dict (length s) xs ≡ true
      → has_sizes_under dict (map (cell_of dict s) xs) ≡ true
      → length (list_octets (map (cell_of dict s) xs)) ≡ size_of dict (map (cell_of dict s) xs)
  unfolding list_octets
  placed_long [] h z = sym (size_nil dict)
  placed_long (a ∷ xs) h z =
      let c = cell_of dict s a in
      let cs = map (cell_of dict s) xs in
      let p = placed_first a xs h in
      let t = sized dict c cs z in
      let o = avp_long a cs p.0 t in
      let e = placed_long xs p.1 t.rest in
      length-append (avp_octets c) (list_octets cs) ∙ omega (arith, size_cons dict c cs)

  -- a length that is not too long fits its three octets
  length-fits : (c : Cell) (cs : List Cell) → Sized dict c cs → own_size dict c + size_of dict cs ≤ longest_command
      → header_of (has_vendor c) + c.length < 2 ^ 24
  unfolding own_size
  length-fits c cs t l =
      by_cases (is_group_cell dict c)
      (λ g. let k = rw g at l in let m = under_most dict c.depth cs in let u = t.one g in omega arith)
      (λ g. let k = rw g at l in let m = padded_least c.length in omega arith)

  names_first : (a : Avp) (xs : List Avp) → names_fit (a ∷ xs) ≡ true
      → (a.vendor < 2 ^ 32) × (a.code < 2 ^ 32) × (names_fit xs ≡ true)
  unfolding names_fit name_fits
  names_first a xs h =
      let n = and_true (ltb a.vendor (2 ^ 32) && ltb a.code (2 ^ 32)) (names_fit xs) h in
      let f = and_true (ltb a.vendor (2 ^ 32)) (ltb a.code (2 ^ 32)) n.0 in
      (ltb-true _ _ f.0, ltb-true _ _ f.1, n.1)

  -- such AVPs, with names that fit and not too long, are a list that its octets can say
  pub fits_placed : (xs : List Avp) → all_placed dict (length s) xs ≡ true → names_fit xs ≡ true
      → has_sizes_under dict (map (cell_of dict s) xs) ≡ true
      → size_of dict (map (cell_of dict s) xs) ≤ longest_command
      → All (Fit dict) (map zeroed (map (cell_of dict s) xs))
  fits_placed [] h n z l = tt
  fits_placed (a ∷ xs) h n z l =
      let c = cell_of dict s a in
      let cs = map (cell_of dict s) xs in
      let p = placed_first a xs h in
      let f = names_first a xs n in
      let t = sized dict c cs z in
      let e = size_cons dict c cs in (
        record {
          vendor_small = f.0;
          code_small = f.1;
          length-small = length-fits c cs t (omega arith);
          data_is = data_long a p.0;
          padding_is = length-replicate _ 0;
        },
        fits_placed xs p.1 f.2 t.rest (omega arith),
      )

-- ---- the draft

-- what the tests of 7006 say, lengths over all that is under a group
pub record WellFormed (d : Draft) : Type 0 where
  pub room : length d.«record».avps ≡ most_avps
  pub few : d.«record».count ≤ most_avps
  pub blank : unused_blank d.«record» ≡ true
  pub placed_all : all_placed dictionary (length d.octets) (recorded d.«record») ≡ true
  pub tree : is_tree 1 dictionary (cells_of d) ≡ true
  pub sizes : has_sizes_under dictionary (cells_of d) ≡ true
  pub hop_small : d.«record».hop_by_hop < 2 ^ 32
  pub end_small : d.«record».end_to_end < 2 ^ 32
  pub names : names_fit (recorded d.«record») ≡ true

pub well_formed : (d : Draft) → is_well_formed d ≡ true → WellFormed d
unfolding is_well_formed identifiers_fit
well_formed d h =
    let r = d.«record» in
    let room = has_room r in
    let few = count_fits r in
    let blank = unused_blank r in
    let placed = all_placed dictionary (length d.octets) (recorded r) in
    let tree = is_tree 1 dictionary (cells_of d) in
    let sizes = has_sizes dictionary (cells_of d) in
    let f = and_true (room && few && blank && placed && tree && sizes) (fits_wire r) h in
    let e = and_true (room && few && blank && placed && tree) sizes f.0 in
    let c = and_true (room && few && blank && placed) tree e.0 in
    let b = and_true (room && few && blank) placed c.0 in
    let a = and_true (room && few) blank b.0 in
    let g = and_true room few a.0 in
    let w = and_true (identifiers_fit r) (names_fit (recorded r)) f.1 in
    let i = and_true (ltb r.hop_by_hop (2 ^ 32)) (ltb r.end_to_end (2 ^ 32)) w.0 in
    record {
      room = eqb-true _ _ g.0;
      few = leb-true _ _ g.1;
      blank = a.1;
      placed_all = b.1;
      tree = c.1;
      sizes = sym (sizes_same dictionary (cells_of d) 1 c.1) ∙ e.1;
      hop_small = ltb-true _ _ i.0;
      end_small = ltb-true _ _ i.1;
      names = w.1;
    }

-- and the other way
pub is_well_formed_lem : (d : Draft) → WellFormed d → is_well_formed d ≡ true
unfolding is_well_formed identifiers_fit
is_well_formed_lem d w =
    simp (
      eq-eqb _ _ w.room,
      le-leb _ _ w.few,
      w.blank,
      w.placed_all,
      w.tree,
      sizes_same dictionary (cells_of d) 1 w.tree,
      w.sizes,
      lt-ltb _ _ w.hop_small,
      lt-ltb _ _ w.end_small,
      w.names,
    )

-- all AVPs that the record counts stand in it
pub recorded_long : (r : Record) → length r.avps ≡ most_avps → r.count ≤ most_avps → length (recorded r) ≡ r.count
recorded_long r l h =
    let m : min r.count most_avps ≡ r.count = omega arith in
    ap (λ (k : ℕ). length (take k r.avps)) m ∙ length-take-le r.count r.avps (omega arith)

module _ (d : Draft) (form : is_well_formed d ≡ true) (long : length (draft_octets d) ≤ longest_command) where
  pub draft_listed : Listed dictionary 1 (map zeroed (cells_of d))
  draft_listed =
      let w = well_formed d form in
      let cs = cells_of d in
      let cz = cells_zeroed cs in
      let c = command_long (draft_meaning d) in
      let o = placed_long dictionary d.octets (recorded d.«record») w.placed_all w.sizes in
      record {
        fit = fits_placed dictionary d.octets (recorded d.«record») w.placed_all w.names w.sizes
            (omega arith);
        over = rw cz (tree_over dictionary cs 1 w.tree);
        tree = rw cz w.tree;
        sizes = rw cz w.sizes;
      }

  pub draft_writable : Writable (draft_meaning d)
  draft_writable =
      let w = well_formed d form in
      let r = d.«record» in
      record {
        hop_small = w.hop_small;
        end_small = w.end_small;
        count_is = sym (length-map (recorded r) (cell_of dictionary d.octets) ∙ recorded_long r w.room w.few);
        listed = draft_listed;
        long = long;
      }

-- what is written is read: the octets of an accepted draft have its meaning
pub draft_meaning_lem : (d : Draft) → is_well_formed d ≡ true → length (draft_octets d) ≤ longest_command
    → command_outcome (draft_octets d) ≡ no_refusal
    → meaning_of (draft_octets d) ≡ draft_meaning d
draft_meaning_lem d form long e =
    let w = passed_command (draft_octets d) e in
    meaning_written (draft_meaning d) (draft_writable d form long) w.avps w.walk
