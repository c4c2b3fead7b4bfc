-- The promises of the tests of a draft and of its sizes. What does not depend on a draft's octets is promised for all
-- of them.
use Rattle.std.specs.Prelude.{◌≡◌, ℕ, ◌+◌, ◌*◌, ◌^◌, ◌≤◌, List, Bool, drop}
use Rattle.rules.specs.declared.Avp.{Avp}
use Rattle.rules.specs.Header.{header_size}
use Rattle.rules.specs.Walk.{most_avps}
use Rattle.rules.specs.Draft.{draft_of, cells_of, full_size, members_size}
use Rattle.numbers.specs.Numbers.{numbered_record, numbered_avp, numbered_used}
use Rattle.draft.specs.Drafts.{draft_cell, draft_cells, has_size}

-- the most octets of an AVP: a header with a vendor, and data of a length of four octets with its padding
abbrev pub longest_avp : ℕ
longest_avp = 12 + 2 ^ 32

-- the octets of an AVP with its padding
pub record IsFullSize (a : Avp) (r : ℕ) : Type 0 where
  pub is : (s : List ℕ) → r ≡ full_size (draft_cell s a)
  pub small : r ≤ longest_avp

-- those of the members at a depth, from a position on
pub record IsMembersSize (numbers : List ℕ) (from depth r : ℕ) : Type 0 where
  pub is : (s : List ℕ) → r ≡ members_size depth (draft_cells s (drop from (numbered_used numbers)))
  pub small : r ≤ most_avps * longest_avp

-- whether the AVP at a position, where it is a read group, has the length of its members
abbrev pub HasSize : List ℕ → ℕ → Bool → Type 0
HasSize numbers i r =
    (s : List ℕ) → r ≡ has_size (numbered_avp numbers i) (draft_cells s (drop (i + 1) (numbered_used numbers)))

-- the header and the members at depth 1: the octets of the command, whatever octets the draft is over
pub record IsCommandSize (numbers : List ℕ) (r : ℕ) : Type 0 where
  pub is : (s : List ℕ) → r ≡ header_size + members_size 1 (cells_of (draft_of (numbered_record numbers) s))
