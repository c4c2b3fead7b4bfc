-- 01, The record and the writer: the draft, and the tests of 7006 in 01's order. Each is true where its fault is not
-- met.
use Rattle.std.specs.Prelude.{ℕ, ◌+◌, ◌^◌, List, [], ◌∷◌, map, Bool, true, cond, not, ◌&&◌, length, drop, ltb, leb, eqb}
use Rattle.rules.specs.declared.Avp.{Avp}
use Rattle.rules.specs.declared.Record.{Record}
use Rattle.rules.specs.Octets.{padded}
use Rattle.rules.specs.Avp.{header_of, end_of}
use Rattle.rules.specs.declared.Entry.{Entry}
use Rattle.rules.specs.Dictionary.{dictionary}
use Rattle.rules.specs.Walk.{most_avps, deepest}
use Rattle.rules.specs.Record.{reading, recorded}
use Rattle.rules.specs.Meaning.{Cell, Meaning, is_read_group, cell_of, meaning_over}
use Rattle.rules.specs.Wire.{has_vendor}

-- a draft: a record over lent octets
pub record Draft : Type 0 where
  pub «record» : Record
  pub octets : List ℕ

abbrev pub draft_of : Record → List ℕ → Draft
draft_of r s = record { «record» = r; octets = s }

-- the draft of a command: its own record over its octets
abbrev pub own_draft : List ℕ → Draft
own_draft c = draft_of (reading c).«record» c

abbrev pub cells_of : Draft → List Cell
cells_of d = map (cell_of dictionary d.octets) (recorded d.«record»)

-- its meaning, from its record and its octets as they stand at its call
abbrev pub draft_meaning : Draft → Meaning
draft_meaning d = meaning_over d.«record» d.octets

-- room for 256 AVPs, which the type of a record gives
abbrev pub has_room : Record → Bool
has_room r = eqb (length r.avps) most_avps

-- the count does not exceed 256
abbrev pub count_fits : Record → Bool
count_fits r = leb r.count most_avps

-- a place that is all 0
unfoldable pub is_blank : Avp → Bool
is_blank a =
    eqb a.depth 0 && eqb a.vendor 0 && eqb a.code 0 && not a.m && not a.p && eqb a.start 0
    && eqb a.length 0

unfoldable pub all_blank : List Avp → Bool
all_blank [] = true
all_blank (a ∷ xs) = is_blank a && all_blank xs

-- an unused place is all 0
abbrev pub unused_blank : Record → Bool
unused_blank r = all_blank (drop r.count r.avps)

-- the data part of an AVP that is no read group does not leave the octets
unfoldable pub is_placed : List Entry → ℕ → Avp → Bool
is_placed dict size a = cond (is_read_group dict a.vendor a.code) true (leb (end_of a) size)

unfoldable pub all_placed : List Entry → ℕ → List Avp → Bool
all_placed dict size [] = true
all_placed dict size (a ∷ xs) = is_placed dict size a && all_placed dict size xs

-- the greatest depth that may follow an AVP: deeper by one only after a read group
abbrev pub next_depth : List Entry → Cell → ℕ
next_depth dict c = cond (is_read_group dict c.vendor c.code) (c.depth + 1) c.depth

-- the depths form a tree: first 1, none 0, at most 4, and none greater than may follow the one before
unfoldable pub is_tree : ℕ → List Entry → List Cell → Bool
is_tree most dict [] = true
is_tree most dict (c ∷ cs) =
    leb 1 c.depth && leb c.depth most && leb c.depth deepest && is_tree (next_depth dict c) dict cs

-- the octets of an AVP with its padding
abbrev pub full_size : Cell → ℕ
full_size c = header_of (has_vendor c) + padded c.length

-- the octets of the members at a depth: of the AVPs that follow in walk order those at that depth, up to the first
-- above it
unfoldable pub members_size : ℕ → List Cell → ℕ
members_size depth [] = 0
members_size depth (c ∷ cs) =
    cond (ltb c.depth depth) 0 (cond (eqb c.depth depth) (full_size c) 0 + members_size depth cs)

-- a read group's length is that of its members with padding
unfoldable pub has_sizes : List Entry → List Cell → Bool
has_sizes dict [] = true
has_sizes dict (c ∷ cs) =
    cond (is_read_group dict c.vendor c.code) (eqb c.length (members_size (c.depth + 1) cs)) true && has_sizes dict cs

-- identifiers, and vendors and codes, of four octets
unfoldable pub identifiers_fit : Record → Bool
identifiers_fit r = ltb r.hop_by_hop (2 ^ 32) && ltb r.end_to_end (2 ^ 32)

unfoldable pub name_fits : Avp → Bool
name_fits a = ltb a.vendor (2 ^ 32) && ltb a.code (2 ^ 32)

unfoldable pub names_fit : List Avp → Bool
names_fit [] = true
names_fit (a ∷ xs) = name_fits a && names_fit xs

-- each identifier, vendor and code fits its place on the wire; a flag is a Bool, which fits its bit
abbrev pub fits_wire : Record → Bool
fits_wire r = identifiers_fit r && names_fit (recorded r)

-- a draft that is not 7006
unfoldable pub is_well_formed : Draft → Bool
is_well_formed d =
    has_room d.«record»
    && count_fits d.«record»
    && unused_blank d.«record»
    && all_placed dictionary (length d.octets) (recorded d.«record»)
    && is_tree 1 dictionary (cells_of d)
    && has_sizes dictionary (cells_of d)
    && fits_wire d.«record»
