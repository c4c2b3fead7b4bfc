-- The writer at the edges, computed: for each condition of 7006, in 01's order, drafts that meet it and drafts that do
-- not; and the octets of a command.
use mathlib.Core.Path.{◌≡◌, refl}
use Prim.Native.Nat.{ℕ, ◌-◌, ◌^◌}
use mathlib.Core.List.{List, [], ◌∷◌, map}
use mathlib.Core.Bool.{Bool, true, false}
use lib.ListN.{length, replicate}
use Rattle.rules.specs.declared.Avp.{Avp}
use Rattle.rules.specs.Octets.{octets, padded}
use Rattle.rules.specs.Dictionary.{dictionary, find}
use Rattle.rules.specs.Record.{in_room}
use Rattle.rules.specs.Meaning.{Cell, Meaning}
use Rattle.rules.specs.Wire.{avp_flags, avp_header, avp_octets, list_octets, flags_octet, command_header, command_octets}
use Rattle.rules.specs.Draft.{Draft, is_blank, all_blank, is_placed, all_placed, is_tree, members_size, has_sizes, identifiers_fit, name_fits, names_fit, is_well_formed}

-- an AVP by its fields
abbrev place : ℕ → ℕ → ℕ → Bool → Bool → ℕ → ℕ → Avp
place depth vendor code m p start length =
    record { depth = depth; vendor = vendor; code = code; m = m; p = p; start = start; length = length }

-- an AVP without vendor and flags at this depth, with this code, start and length. 284 is a read group, 33 is none
abbrev avp : ℕ → ℕ → ℕ → ℕ → Avp
avp depth code start length = place depth 0 code false false start length

-- a draft over four octets, with these identifiers, this count, and these AVPs in its first places
abbrev draft : ℕ → ℕ → ℕ → List Avp → Draft
draft hop end count xs = record {
  «record» = record {
    r = true;
    p = true;
    e = false;
    t = false;
    hop_by_hop = hop;
    end_to_end = end;
    count = count;
    avps = in_room xs;
  };
  octets = replicate 4 7;
}

-- whose count is that of its AVPs
abbrev of : List Avp → Draft
of xs = draft 1 2 (length xs) xs

-- a draft, and whether it is well formed
pub record Form : Type 0 where
  pub draft : Draft
  pub formed : Bool

abbrev good : Draft → Form
good d = record { draft = d; formed = true }

abbrev bad : Draft → Form
bad d = record { draft = d; formed = false }

-- the drafts of a list are well formed or not, as it says
abbrev AsSaid : List Form → Type 0
AsSaid forms = map (λ f. is_well_formed f.draft) forms ≡ map (λ f. f.formed) forms

-- the count does not exceed 256
unfoldable pub counts : List Form
counts =
    good (of []) ∷
    good (draft 1 2 256 (replicate 256 (avp 1 33 0 0))) ∷
    bad (draft 1 2 257 (replicate 256 (avp 1 33 0 0))) ∷ []

pub counts_said : AsSaid counts
unfolding counts padded dictionary find is_blank all_blank is_placed all_placed is_tree members_size has_sizes identifiers_fit name_fits names_fit is_well_formed
counts_said = refl

-- an unused place is all 0: one field is not
unfoldable pub unused : List Form
unused =
    bad (draft 1 2 0 (place 1 0 0 false false 0 0 ∷ [])) ∷
    bad (draft 1 2 0 (place 0 1 0 false false 0 0 ∷ [])) ∷
    bad (draft 1 2 0 (place 0 0 1 false false 0 0 ∷ [])) ∷
    bad (draft 1 2 0 (place 0 0 0 true false 0 0 ∷ [])) ∷
    bad (draft 1 2 0 (place 0 0 0 false true 0 0 ∷ [])) ∷
    bad (draft 1 2 0 (place 0 0 0 false false 1 0 ∷ [])) ∷
    bad (draft 1 2 0 (place 0 0 0 false false 0 1 ∷ [])) ∷ []

pub unused_said : AsSaid unused
unfolding unused padded dictionary find is_blank all_blank is_placed all_placed is_tree members_size has_sizes identifiers_fit name_fits names_fit is_well_formed
unused_said = refl

-- a data part lies in the octets: one of length 0 may start at their end; a read group's start is free
unfoldable pub parts : List Form
parts =
    good (of (avp 1 33 0 4 ∷ [])) ∷
    bad (of (avp 1 33 1 4 ∷ [])) ∷
    good (of (avp 1 33 4 0 ∷ [])) ∷
    bad (of (avp 1 33 5 0 ∷ [])) ∷
    good (of (avp 1 284 5 0 ∷ [])) ∷ []

pub parts_said : AsSaid parts
unfolding parts padded dictionary find is_blank all_blank is_placed all_placed is_tree members_size has_sizes identifiers_fit name_fits names_fit is_well_formed
parts_said = refl

-- depths: 0; 2 first; deeper after no read group; deeper by two; a read group at 4; an AVP at 5
unfoldable pub trees : List Form
trees =
    bad (of (avp 0 33 0 0 ∷ [])) ∷
    bad (of (avp 2 33 0 0 ∷ [])) ∷
    bad (of (avp 1 33 0 0 ∷ avp 2 33 0 0 ∷ [])) ∷
    bad (of (avp 1 284 0 0 ∷ avp 3 33 0 0 ∷ [])) ∷
    good (of (avp 1 284 0 24 ∷ avp 2 284 0 16 ∷ avp 3 284 0 8 ∷ avp 4 284 0 0 ∷ [])) ∷
    bad (of (avp 1 284 0 32 ∷ avp 2 284 0 24 ∷ avp 3 284 0 16 ∷ avp 4 284 0 8 ∷ avp 5 33 0 0 ∷ [])) ∷ []

pub trees_said : AsSaid trees
unfolding trees padded dictionary find is_blank all_blank is_placed all_placed is_tree members_size has_sizes identifiers_fit name_fits names_fit is_well_formed
trees_said = refl

-- lengths: with the last member's padding and without; of a member with vendor; of a group in a group
unfoldable pub sizes : List Form
sizes =
    good (of (avp 1 284 0 24 ∷ avp 2 33 0 1 ∷ avp 2 33 0 1 ∷ [])) ∷
    bad (of (avp 1 284 0 21 ∷ avp 2 33 0 1 ∷ avp 2 33 0 1 ∷ [])) ∷
    good (of (avp 1 284 0 16 ∷ place 2 10415 4202 true true 0 1 ∷ avp 1 33 0 4 ∷ [])) ∷
    good (of (avp 1 284 0 32 ∷ avp 2 284 0 12 ∷ avp 3 33 0 1 ∷ avp 2 33 0 1 ∷ [])) ∷ []

pub sizes_said : AsSaid sizes
unfolding sizes padded dictionary find is_blank all_blank is_placed all_placed is_tree members_size has_sizes identifiers_fit name_fits names_fit is_well_formed
sizes_said = refl

-- what fits the wire: identifiers, vendor, code
unfoldable pub wire : List Form
wire =
    good (draft (2 ^ 32 - 1) (2 ^ 32 - 1) 1 (place 1 (2 ^ 32 - 1) (2 ^ 32 - 1) false false 0 0 ∷ [])) ∷
    bad (draft (2 ^ 32) 0 0 []) ∷
    bad (draft 0 (2 ^ 32) 0 []) ∷
    bad (of (place 1 (2 ^ 32) 0 false false 0 0 ∷ [])) ∷
    bad (of (place 1 0 (2 ^ 32) false false 0 0 ∷ [])) ∷ []

pub wire_said : AsSaid wire
unfolding wire padded dictionary find is_blank all_blank is_placed all_placed is_tree members_size has_sizes identifiers_fit name_fits names_fit is_well_formed
wire_said = refl

-- ---- octets

abbrev cell : ℕ → ℕ → Bool → Bool → List ℕ → Cell
cell vendor code m p s =
    record { depth = 1; vendor = vendor; code = code; m = m; p = p; length = length s; octets = s }

abbrev meaning : Bool → Bool → Bool → Bool → List Cell → Meaning
meaning r p e t cells = record {
  r = r;
  p = p;
  e = e;
  t = t;
  hop_by_hop = 1;
  end_to_end = 2;
  count = length cells;
  cells = cells;
}

-- a command with an AVP without vendor and one with it
unfoldable pub command : Meaning
command = meaning true true false true (cell 0 33 true false (7 ∷ []) ∷ cell 10415 4202 true false [] ∷ [])

pub command_said : command_octets command
    ≡ 1 ∷ 0 ∷ 0 ∷ 44 ∷ 0xD0 ∷ 0x80 ∷ 0x00 ∷ 0x73 ∷ 0x01 ∷ 0x00 ∷ 0x00 ∷ 0x84 ∷ 0 ∷ 0 ∷ 0 ∷ 1 ∷ 0 ∷ 0 ∷ 0 ∷ 2 ∷
    0 ∷ 0 ∷ 0x00 ∷ 0x21 ∷ 0x40 ∷ 0 ∷ 0 ∷ 9 ∷ 7 ∷ 0 ∷ 0 ∷ 0 ∷
    0 ∷ 0 ∷ 0x10 ∷ 0x6A ∷ 0xC0 ∷ 0 ∷ 0 ∷ 12 ∷ 0 ∷ 0 ∷ 0x28 ∷ 0xAF ∷ []
unfolding command octets padded avp_flags avp_header avp_octets list_octets flags_octet command_header command_octets
command_said = refl

-- each flag alone: R, P, E, T of the command, and V, M, P of an AVP
pub flags_said : map flags_octet (
    meaning true false false false [] ∷ meaning false true false false [] ∷
    meaning false false true false [] ∷ meaning false false false true [] ∷ []
    ) ≡ 128 ∷ 64 ∷ 32 ∷ 16 ∷ []
unfolding flags_octet
flags_said = refl

pub avp_flags_said : map avp_flags (cell 1 0 false false [] ∷ cell 0 0 true false [] ∷ cell 0 0 false true [] ∷ [])
    ≡ 128 ∷ 64 ∷ 32 ∷ []
unfolding avp_flags
avp_flags_said = refl
