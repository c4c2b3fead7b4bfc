-- 01, The record: the record of an accepted command, the empty record, data of a position, and the search.
use Rattle.std.specs.Prelude.{◌≡◌, ℕ, ◌-◌, ◌<◌, min, List, ◌++◌, Bool, cond, ◌&&◌, length, take, drop, replicate, ltb, leb, Err, Ok}
use Rattle.rules.specs.Verdict.{Outcome}
use Rattle.rules.specs.declared.Avp.{Avp}
use Rattle.rules.specs.declared.Record.{Record}
use Rattle.rules.specs.declared.Reading.{Reading}
use Rattle.rules.specs.declared.Sought.{Sought}
use Rattle.rules.specs.Header.{command_flags, hop_by_hop, end_to_end, is_request, is_proxiable, is_error, is_retransmitted}
use Rattle.rules.specs.Avp.{end_of}
use Rattle.rules.specs.Walk.{most_avps, avps_of}
use Rattle.rules.specs.Search.{blank, avp_in, search, how_many, Stands}
use Rattle.rules.specs.Command.{command_outcome, command_verdict, walk_of}

-- AVPs in room for 256; unused places are 0
abbrev pub in_room : List Avp → List Avp
in_room xs = xs ++ replicate (most_avps - length xs) blank

-- the record of a command with these AVPs
unfoldable pub record_of : List ℕ → List Avp → Record
record_of s xs = record {
  r = is_request (command_flags s);
  p = is_proxiable (command_flags s);
  e = is_error (command_flags s);
  t = is_retransmitted (command_flags s);
  hop_by_hop = hop_by_hop s;
  end_to_end = end_to_end s;
  count = length xs;
  avps = in_room xs;
}

-- the empty record: all numbers 0
unfoldable pub empty_record : Record
empty_record = record {
  r = Bool.false;
  p = Bool.false;
  e = Bool.false;
  t = Bool.false;
  hop_by_hop = 0;
  end_to_end = 0;
  count = 0;
  avps = replicate most_avps blank;
}

-- the record that comes back: with a refusal the empty one
abbrev pub record_by : List ℕ → Outcome → Record
record_by s (Ok u) = record_of s (avps_of (walk_of s))
record_by s (Err v) = empty_record

-- what reading a slice of octets gives
unfoldable pub reading : List ℕ → Reading
reading s = record { verdict = command_verdict s; «record» = record_by s (command_outcome s) }

-- the AVPs of a record; a count above 256 is read as 256
abbrev pub recorded : Record → List Avp
recorded r = take (min r.count most_avps) r.avps

-- whether a position is used and its data lies in a slice of this size
abbrev pub lies_in : Record → ℕ → ℕ → Bool
lies_in r i size = ltb i (min r.count most_avps) && leb (end_of (avp_in r.avps i)) size

-- the part of such a slice that the data is: its start and its length; else the empty part at the slice's start
unfoldable pub data_start : Record → ℕ → ℕ → ℕ
data_start r i size = cond (lies_in r i size) (avp_in r.avps i).start 0

unfoldable pub data_length : Record → ℕ → ℕ → ℕ
data_length r i size = cond (lies_in r i size) (avp_in r.avps i).length 0

-- the octets of that part
unfoldable pub data_at : Record → ℕ → List ℕ → List ℕ
data_at r i s = take (data_length r i (length s)) (drop (data_start r i (length s)) s)

-- request [9]: the search among the AVPs of the record
unfoldable pub search_record : Record → ℕ → ℕ → ℕ → Sought
search_record r vendor code ordinal = search (recorded r) vendor code ordinal

-- ---- what is claimed of it (proofs/demands/Recorded)

-- how many positions are used; a count above 256 is read as 256. Said apart from `recorded`, so that a wrong reading of
-- the count there is refused
abbrev pub used : Record → ℕ
used r = min r.count most_avps

-- the AVP at a used position stands at depth 1 with a vendor and code, and has exactly as many of them before it at
-- depth 1 as the ordinal says
pub record NthRecorded (r : Record) (vendor code ordinal i : ℕ) : Type 0 where
  pub within : i < used r
  pub here : Stands (avp_in r.avps i) 1 vendor code
  pub before : how_many 1 vendor code (take i r.avps) ≡ ordinal
