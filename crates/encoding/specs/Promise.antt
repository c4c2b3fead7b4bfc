-- The promises of the functions that put a command's parts, and what they ask for. What does not depend on a draft's
-- octets is promised for all of them.
use Rattle.std.specs.Prelude.{◌≡◌, ℕ, ◌+◌, ◌≤◌, List, [], ◌∷◌, Bool, true, false, cond, length, set}
use Rattle.std.proofs.lemmas.List.Edits.{sets}
use Rattle.rules.specs.declared.Avp.{Avp}
use Rattle.rules.specs.declared.Record.{Record}
use Rattle.rules.specs.Octets.{octets, padded}
use Rattle.rules.specs.Header.{header_size, application_nt, code_background_data_transfer}
use Rattle.rules.specs.Avp.{end_of}
use Rattle.rules.specs.Wire.{avp_octets, list_octets, flags_octet}
use Rattle.rules.specs.Draft.{draft_of, draft_meaning}
use Rattle.rules.specs.Writer.{draft_octets}
use Rattle.numbers.specs.Numbers.{numbered_record, numbered_used}
use Rattle.draft.specs.Drafts.{draft_cell, draft_cells, is_group_avp}

-- the octets of the AVPs, and of the whole command
abbrev pub numbered_list : List ℕ → List ℕ → List ℕ
numbered_list numbers s = list_octets (draft_cells s (numbered_used numbers))

abbrev pub numbered_command : List ℕ → List ℕ → List ℕ
numbered_command numbers s = draft_octets (draft_of (numbered_record numbers) s)

-- a flag's value where it is set
pub record IsFlag (on : Bool) (value r : ℕ) : Type 0 where
  pub is : r ≡ cond on value 0
  pub small : r ≤ value

-- octets put from a place on, and the place behind them
pub record IsPut (before : List ℕ) (at : ℕ) (xs after : List ℕ) (next : ℕ) : Type 0 where
  pub is : after ≡ sets before at xs
  pub ends : next ≡ at + length xs

-- an AVP whose data lies in the octets; a read group, whose octets are its header, needs no padding
pub record IsWhole (s : List ℕ) (a : Avp) : Type 0 where
  pub part : is_group_avp a ≡ false → end_of a ≤ length s
  pub group : is_group_avp a ≡ true → padded a.length ≡ a.length

abbrev pub AllWhole : List ℕ → List Avp → Type 0
AllWhole s [] = Unit {0}
AllWhole s (a ∷ xs) = IsWhole s a × AllWhole s xs

-- an AVP and the room that it takes
pub record CanPut (out : List ℕ) (at : ℕ) (a : Avp) (s : List ℕ) : Type 0 where
  pub whole : IsWhole s a
  pub room : at + length (avp_octets (draft_cell s a)) ≤ length out

-- the AVPs of a draft and the room that they take behind the header
pub record CanPutAll (out numbers s : List ℕ) : Type 0 where
  pub whole : AllWhole s (numbered_used numbers)
  pub room : header_size + length (numbered_list numbers s) ≤ length out

-- a header's first eight octets, for a command of this size, whatever the draft's octets
pub record IsStart (before numbers : List ℕ) (size : ℕ) (after : List ℕ) : Type 0 where
  pub is : (s : List ℕ)
      → after
      ≡ sets
      (set (sets (set before 0 1) 1 (octets 3 size)) 4 (flags_octet (draft_meaning (draft_of (numbered_record numbers) s))))
      5 (octets 3 code_background_data_transfer)

-- its other twelve
abbrev pub identified : List ℕ → Record → List ℕ
identified before r =
    sets (sets (sets before 8 (octets 4 application_nt)) 12 (octets 4 r.hop_by_hop)) 16 (octets 4 r.end_to_end)

-- a draft's AVPs with the size of its command
pub record CanPutCommand (out numbers s : List ℕ) (size : ℕ) : Type 0 where
  pub all : CanPutAll out numbers s
  pub long : size ≡ header_size + length (numbered_list numbers s)
