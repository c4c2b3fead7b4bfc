-- What the boundary hands back for a record as numbers: the part of a slice that an AVP's data is, as start and length,
-- and the answer of a search as numbers.
use Rattle.std.specs.Prelude.{◌≡◌, ℕ, List, length, take, drop, replicate, Err}
use Rattle.rules.specs.declared.Verdict.{Verdict}
use Rattle.rules.specs.declared.Sought.{Sought}
use Rattle.rules.specs.Command.{command_outcome, command_verdict}
use Rattle.rules.specs.Record.{reading, data_start, data_length, data_at, search_record}
use Rattle.rules.specs.Search.{position_of}
use Rattle.rules.specs.Draft.{draft_of}
use Rattle.numbers.specs.Numbers.{numbers_of, record_numbers, numbered_record}
use Rattle.numbers.specs.Draft.{numbered_draft}
use Rattle.boundary.specs.declared.Part.{Part}
use Rattle.boundary.specs.declared.SoughtNumbers.{SoughtNumbers}

-- a part by its start and its length
abbrev pub part : ℕ → ℕ → Part
part start size = record { start = start; length = size }

-- the empty part at the start
abbrev pub no_part : Part
no_part = part 0 0

-- the part of a slice of this size that is the data of a position, by its start and its length
unfoldable pub part_at : List ℕ → ℕ → ℕ → Part
part_at numbers i size =
    part (data_start (numbered_record numbers) i size) (data_length (numbered_record numbers) i size)

-- what `talazumir_data` gives: that part, whose octets are the data of that position of the record
pub record IsData (numbers : List ℕ) (i : ℕ) (s : List ℕ) (r : Part) : Type 0 where
  pub is : r ≡ part_at numbers i (length s)
  pub octets : take r.length (drop r.start s) ≡ data_at (numbered_record numbers) i s

-- the answer of a search as numbers
abbrev pub sought_numbers : Sought → SoughtNumbers
sought_numbers sought = record { position = position_of sought.found; number = sought.number }

-- what `talazumir_search` gives
unfoldable pub search_numbers : List ℕ → ℕ → ℕ → ℕ → SoughtNumbers
search_numbers numbers vendor code ordinal = sought_numbers (search_record (numbered_record numbers) vendor code ordinal)

-- what `talazumir_read` gives: the verdict, and the record as numbers, all 0 with a refusal. They stand for that
-- record, and over any octets for its draft
pub record IsRead (s : List ℕ) (r : Verdict) (numbers : List ℕ) : Type 0 where
  pub verdict : r ≡ command_verdict s
  pub recorded : numbers ≡ numbers_of (reading s).«record»
  pub stands : numbered_record numbers ≡ (reading s).«record»
  pub draft : (octets : List ℕ) → numbered_draft numbers octets ≡ draft_of (reading s).«record» octets
  pub zero : (v : Verdict) → command_outcome s ≡ Err v → numbers ≡ replicate record_numbers 0
