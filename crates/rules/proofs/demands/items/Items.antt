-- AVPs in walk order as their octets stand: the cell that belongs to the meaning, and the padding. Walk order is the
-- order of the octets, and a read group is its header, followed by its members.
use mathlib.Core.Path.{◌≡◌}
use Rattle.std.specs.Prelude.{Err, Ok}
use Prim.Native.Nat.{ℕ, ◌+◌, ◌-◌, ◌^◌, ◌≤◌, ◌<◌}
use mathlib.Core.Bool.{Bool, true, cond, ◌&&◌}
use mathlib.Core.List.{List, [], ◌∷◌, ◌++◌, map}
use lib.ListN.{length}
use lib.Dec.{ltb, leb, eqb}
use Rattle.rules.specs.declared.Avp.{Avp}
use Rattle.rules.specs.Octets.{padded}
use Rattle.rules.specs.Verdict.{verdict, Outcome}
use Rattle.rules.specs.Avp.{header_of}
use Rattle.rules.specs.declared.Entry.{Entry}
use Rattle.rules.specs.Dictionary.{find}
use Rattle.rules.specs.Walk.{Walked, whole, stopped, after, most_avps, contents}
use Rattle.rules.specs.Meaning.{Cell, is_read_group}
use Rattle.rules.specs.Wire.{has_vendor, avp_header}
use Rattle.rules.specs.Draft.{is_tree}

pub record Item : Type 0 where
  pub cell : Cell
  pub padding : List ℕ

abbrev pub cell_in : Item → Cell
cell_in x = x.cell

-- the octets of items, one after the other
unfoldable pub octets_of : List Item → List ℕ
octets_of [] = []
octets_of (x ∷ xs) = avp_header x.cell ++ (x.cell.octets ++ (x.padding ++ octets_of xs))

-- how many an item has
abbrev pub step : Item → ℕ
step x = header_of (has_vendor x.cell) + (length x.cell.octets + length x.padding)

-- the AVP of an item that stands at a place
abbrev pub avp_of : ℕ → Item → Avp
avp_of at x = record {
  depth = x.cell.depth;
  vendor = x.cell.vendor;
  code = x.cell.code;
  m = x.cell.m;
  p = x.cell.p;
  start = at + header_of (has_vendor x.cell);
  length = x.cell.length;
}

-- the AVPs of items that stand from a place on
unfoldable pub avps_at : ℕ → List Item → List Avp
avps_at at [] = []
avps_at at (x ∷ xs) = avp_of at x ∷ avps_at (at + step x) xs

-- each item is so
abbrev pub All : (Item → Type 0) → List Item → Type 0
All P [] = Unit {0}
All P (x ∷ xs) = P x × All P xs

-- an item that its octets can say
pub record Fit (dict : List Entry) (x : Item) : Type 0 where
  pub vendor_small : x.cell.vendor < 2 ^ 32
  pub code_small : x.cell.code < 2 ^ 32
  pub length-small : header_of (has_vendor x.cell) + x.cell.length < 2 ^ 24
  pub data_is : length x.cell.octets ≡ cond (is_read_group dict x.cell.vendor x.cell.code) 0 x.cell.length
  pub padding_is : length x.padding ≡ padded x.cell.length - x.cell.length

-- the octets of an AVP as they stand in walk order, with its padding; of a read group those of its header
unfoldable pub own_size : List Entry → Cell → ℕ
own_size dict c = header_of (has_vendor c) + cond (is_read_group dict c.vendor c.code) 0 (padded c.length)

-- those of the AVPs deeper than a depth, up to the first that is not
unfoldable pub size_under : ℕ → List Entry → List Cell → ℕ
size_under depth dict [] = 0
size_under depth dict (c ∷ cs) = cond (ltb depth c.depth) (own_size dict c + size_under depth dict cs) 0

-- each read group is as long as all AVPs under it; in a tree this is the writer's test of lengths (items/Members)
unfoldable pub has_sizes_under : List Entry → List Cell → Bool
has_sizes_under dict [] = true
has_sizes_under dict (c ∷ cs) =
    cond (is_read_group dict c.vendor c.code) (eqb c.length (size_under c.depth dict cs)) true && has_sizes_under dict cs

-- each cell is at least this deep
abbrev pub Over : ℕ → List Cell → Type 0
Over depth [] = Unit {0}
Over depth (c ∷ cs) = (depth ≤ c.depth) × Over depth cs

-- items that make a list at a depth: the tests of the writer hold of them, lengths over all that is under a group
pub record Listed (dict : List Entry) (depth : ℕ) (xs : List Item) : Type 0 where
  pub fit : All (Fit dict) xs
  pub over : Over depth (map cell_in xs)
  pub tree : is_tree depth dict (map cell_in xs) ≡ true
  pub sizes : has_sizes_under dict (map cell_in xs) ≡ true

-- what the walk makes of items in walk order: checks 1 and 3 to 7 of each, and the AVPs
abbrev pub go_on : Outcome → Avp → Walked → Walked
go_on (Ok u) a w = after (a ∷ []) w
go_on (Err v) a w = stopped [] v

unfoldable pub judged : List Entry → List ℕ → ℕ → ℕ → List Item → Walked
judged dict s count at [] = whole []
judged dict s count at (x ∷ xs) =
    cond (leb most_avps count) (stopped [] (verdict 7002 at 0 0))
    (go_on (contents s at (avp_of at x) (find dict x.cell.vendor x.cell.code)) (avp_of at x)
    (judged dict s (count + 1) (at + step x) xs))
