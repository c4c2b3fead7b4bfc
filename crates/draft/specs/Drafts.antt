-- The AVPs of a draft as cells over its octets, and what is asked of one of them.
use Rattle.std.specs.Prelude.{ℕ, ◌+◌, List, map, Bool, true, cond, not, eqb}
use Rattle.rules.specs.declared.Avp.{Avp}
use Rattle.rules.specs.Avp.{header_of}
use Rattle.rules.specs.Dictionary.{dictionary}
use Rattle.rules.specs.Meaning.{Cell, cell_of, is_read_group}
use Rattle.rules.specs.Draft.{members_size}

abbrev pub draft_cell : List ℕ → Avp → Cell
draft_cell s a = cell_of dictionary s a

abbrev pub draft_cells : List ℕ → List Avp → List Cell
draft_cells s xs = map (cell_of dictionary s) xs

abbrev pub is_group_avp : Avp → Bool
is_group_avp a = is_read_group dictionary a.vendor a.code

-- the octets of an AVP's header
abbrev pub header_for : Avp → ℕ
header_for a = header_of (not (eqb a.vendor 0))

-- a read group's length is that of its members, which are the first of the cells behind it
abbrev pub has_size : Avp → List Cell → Bool
has_size a cs = cond (is_group_avp a) (eqb a.length (members_size (a.depth + 1) cs)) true
