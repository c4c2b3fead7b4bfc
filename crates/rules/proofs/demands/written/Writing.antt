-- The octets that the writer gives to a meaning are walked as its cells; where the walk is whole, they have that
-- meaning.
use mathlib.Core.Path.{◌≡◌, refl, sym, ap, ◌∙◌}
use mathlib.Core.List.{List, [], ◌∷◌, ◌++◌, map, append_assoc, append-nil}
use Prim.Native.Nat.{◌+◌, ◌-◌, ◌^◌, ◌≤◌, ◌<◌}
use native.Mathlib.Omega.{arith}
use lib.ListN.{length, drop, replicate, length-map}
use Rattle.rules.specs.declared.Avp.{Avp}
use Rattle.rules.specs.Octets.{padded}
use Rattle.rules.specs.Header.{header_size, longest_command}
use Rattle.rules.specs.Dictionary.{dictionary}
use Rattle.rules.specs.Walk.{whole, avps_of}
use Rattle.rules.specs.Command.{walk_of}
use Rattle.rules.specs.Meaning.{Cell, Meaning, cell_of, meaning_of}
use Rattle.rules.specs.Wire.{avp_octets, list_octets, command_octets}
use Rattle.rules.proofs.Meanings.{same_fields}
use Rattle.rules.proofs.demands.items.Items.{Item, cell_in, octets_of, avps_at, Listed, judged}
use Rattle.rules.proofs.demands.items.Sequences.{octets_nil, octets_cons, length-avps}
use Rattle.rules.proofs.demands.written.Read.{full}
use Rattle.rules.proofs.demands.written.Cells.{cells_of, within}
use Rattle.rules.proofs.demands.written.Headers.{command_long, command_list, Head, head_of}

-- ---- padding of zeros

abbrev pub zeroed : Cell → Item
zeroed c = record { cell = c; padding = replicate (padded c.length - c.length) 0 }

pub cells_zeroed : (cs : List Cell) → map cell_in (map zeroed cs) ≡ cs
cells_zeroed [] = refl
cells_zeroed (c ∷ cs) = ap (λ (l : List Cell). c ∷ l) (cells_zeroed cs)

pub list_octets_lem : (cs : List Cell) → list_octets cs ≡ octets_of (map zeroed cs)
unfolding list_octets avp_octets
list_octets_lem [] = sym octets_nil
list_octets_lem (c ∷ cs) =
    let e = list_octets_lem cs in
    rw e (simp append_assoc) ∙ sym (octets_cons (zeroed c) (map zeroed cs))

-- ---- meanings that can be written

-- a meaning whose octets are a command that the reader's walk can go through
pub record Writable (m : Meaning) : Type 0 where
  pub hop_small : m.hop_by_hop < 2 ^ 32
  pub end_small : m.end_to_end < 2 ^ 32
  pub count_is : m.count ≡ length m.cells
  pub listed : Listed dictionary 1 (map zeroed m.cells)
  pub long : length (command_octets m) ≤ longest_command

module _ (m : Meaning) (w : Writable m) where
  pub head_written : Head m (command_octets m)
  head_written = head_of m w.hop_small w.end_small w.long

  list_at_lem : drop header_size (command_octets m) ≡ octets_of (map zeroed m.cells) ++ []
  list_at_lem = command_list m ∙ list_octets_lem m.cells ∙ sym (append-nil _)

  -- the walk of what was written
  pub walk_written : walk_of (command_octets m) ≡ judged dictionary (command_octets m) 0 header_size (map zeroed m.cells)
  unfolding walk_of
  walk_written =
      let s = command_octets m in
      let l : length s ≡ header_size + length (octets_of (map zeroed m.cells)) =
      command_long m ∙ rw (list_octets_lem m.cells) in
      full (length s) dictionary (map zeroed m.cells) s [] header_size (length s) 1 0 w.listed list_at_lem l
      (omega arith)

  -- if it is whole, the octets mean what they were made of
  pub meaning_written : (xs : List Avp) → walk_of (command_octets m) ≡ whole xs → meaning_of (command_octets m) ≡ m
  meaning_written xs e =
      let s = command_octets m in
      let items = map zeroed m.cells in
      let h = head_written in
      let f = h.flags_are in
      let lim = within dictionary s items 0 header_size xs (omega arith) (sym walk_written ∙ e) in
      let c : map (cell_of dictionary s) (avps_at header_size items) ≡ m.cells =
      cells_of dictionary s items [] header_size w.listed.fit list_at_lem ∙ cells_zeroed m.cells in
      let n : length (avps_at header_size items) ≡ m.count =
      length-avps header_size items ∙ length-map m.cells zeroed ∙ sym w.count_is in
      let w : avps_of (walk_of s) ≡ avps_at header_size items = ap avps_of e ∙ lim.avps_are in
      same_fields (meaning_of s) m f.first f.second f.third f.fourth h.hop_is h.end_is
      (ap length w ∙ n) (ap (map (cell_of dictionary s)) w ∙ c)
