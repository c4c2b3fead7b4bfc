-- 01, The record, and request [9]: positions among the AVPs of a walk, and the search. The exchange rules use it too.
use Rattle.std.specs.Prelude.{◌≡◌, ℕ, zero, suc, ◌+◌, ◌≤◌, ◌<◌, List, [], ◌∷◌, Bool, true, false, cond, ◌&&◌, length, get_or, take, drop, ltb, eqb, Option, Some, None}
use Rattle.rules.specs.declared.Avp.{Avp}
use Rattle.rules.specs.declared.Sought.{Sought}
use Rattle.rules.specs.Avp.{named}
use Rattle.rules.specs.Walk.{most_avps}

-- an unused place: all numbers 0
abbrev pub blank : Avp
blank = record { depth = 0; vendor = 0; code = 0; m = Bool.false; p = Bool.false; start = 0; length = 0 }

-- the AVP at a position
abbrev pub avp_in : List Avp → ℕ → Avp
avp_in xs i = get_or xs i blank

-- an AVP stands at a depth with a vendor and code
abbrev pub is_at : Avp → ℕ → ℕ → ℕ → Bool
is_at a depth vendor code = eqb a.depth depth && named a vendor code

-- some positions, with position i before them where a test holds
abbrev pub with_position : Bool → ℕ → List ℕ → List ℕ
with_position true i is = i ∷ is
with_position false i is = is

-- the positions, counted from i, of the AVPs at a depth with a vendor and code, in order, before any AVP above the
-- depth `floor`
unfoldable pub positions_from : ℕ → ℕ → ℕ → List Avp → ℕ → ℕ → List ℕ
positions_from i floor depth [] vendor code = []
positions_from i floor depth (a ∷ xs) vendor code =
    cond (ltb a.depth floor) []
    (with_position (is_at a depth vendor code) i (positions_from (i + 1) floor depth xs vendor code))

-- the one of some positions with an ordinal, counted from 0; none where the ordinal is not below their number
abbrev pub nth : List ℕ → ℕ → Option ℕ
nth [] ordinal = None
nth (i ∷ is) zero = Some i
nth (i ∷ is) (suc ordinal) = nth is ordinal

-- the first of them
abbrev pub first_from : ℕ → ℕ → ℕ → List Avp → ℕ → ℕ → Option ℕ
first_from i floor depth xs vendor code = nth (positions_from i floor depth xs vendor code) 0

-- the AVPs at depth 1 with a vendor and code, which are members of the command's own list, by their positions in order
abbrev pub positions : List Avp → ℕ → ℕ → List ℕ
positions xs vendor code = positions_from 0 0 1 xs vendor code

-- request [9]: a search takes an ordinal too, gives the one of them with that ordinal, and tells how many there are
abbrev pub search : List Avp → ℕ → ℕ → ℕ → Sought
search xs vendor code ordinal =
    record { found = nth (positions xs vendor code) ordinal; number = length (positions xs vendor code) }

-- 01's search: the first AVP at depth 1 with a vendor and code
abbrev pub first : List Avp → ℕ → ℕ → Option ℕ
first xs vendor code = (search xs vendor code 0).found

-- the first member of the group at position i, whose members stand at this depth
abbrev pub member : List Avp → ℕ → ℕ → ℕ → ℕ → Option ℕ
member xs i depth vendor code = first_from (i + 1) depth depth (drop (i + 1) xs) vendor code

-- what a search finds as a number: the position, and the number of places for none
abbrev pub position_of : Option ℕ → ℕ
position_of (Some i) = i
position_of None = most_avps

-- ---- what is claimed (proofs/demands/Nth, Found)

-- how many of some AVPs stand at a depth with a vendor and code
unfoldable pub how_many : ℕ → ℕ → ℕ → List Avp → ℕ
how_many depth vendor code [] = 0
how_many depth vendor code (a ∷ xs) = cond (is_at a depth vendor code) 1 0 + how_many depth vendor code xs

-- an AVP has this depth, vendor and code
pub record Stands (a : Avp) (depth vendor code : ℕ) : Type 0 where
  pub depth_is : a.depth ≡ depth
  pub vendor_is : a.vendor ≡ vendor
  pub code_is : a.code ≡ code

-- request [9]: the AVP at a position stands at depth 1 with a vendor and code, and has exactly as many of them before
-- it at depth 1 as the ordinal says
pub record NthAvp (xs : List Avp) (vendor code ordinal i : ℕ) : Type 0 where
  pub within : i < length xs
  pub here : Stands (avp_in xs i) 1 vendor code
  pub before : how_many 1 vendor code (take i xs) ≡ ordinal

-- 01: the first AVP at depth 1 with a vendor and code
pub record FirstAvp (xs : List Avp) (vendor code i : ℕ) : Type 0 where
  pub within : i < length xs
  pub here : Stands (avp_in xs i) 1 vendor code
  pub before : (j : ℕ) → j < i → Stands (avp_in xs j) 1 vendor code → ⊥

-- the first member with a vendor and code of the group at position k: it stands one deeper, and up to it the group has
-- not ended
pub record FirstMember (xs : List Avp) (k vendor code i : ℕ) : Type 0 where
  pub behind : k < i
  pub within : i < length xs
  pub here : Stands (avp_in xs i) ((avp_in xs k).depth + 1) vendor code
  pub inside : (j : ℕ) → k < j → j ≤ i → (avp_in xs k).depth < (avp_in xs j).depth
  pub before : (j : ℕ) → k < j → j < i → Stands (avp_in xs j) ((avp_in xs k).depth + 1) vendor code → ⊥

-- 01: there is none
abbrev pub NoAvp : List Avp → ℕ → ℕ → Type 0
NoAvp xs vendor code = (i : ℕ) → i < length xs → Stands (avp_in xs i) 1 vendor code → ⊥
