-- 01, AVP: the fields of the AVP at a place.
use Rattle.std.specs.Prelude.{ℕ, ◌+◌, ◌-◌, List, Bool, cond, not, ◌&&◌, get_or, eqb}
use Rattle.rules.specs.declared.Avp.{Avp}
use Rattle.rules.specs.Octets.{number_at, flag, padded}

-- code 4 octets, flags 1 (V, M, P, five reserved), length 3, vendor 4 if V is set
abbrev pub code_at : List ℕ → ℕ → ℕ
code_at s at = number_at 4 s at

abbrev pub flags_at : List ℕ → ℕ → ℕ
flags_at s at = get_or s (at + 4) 0

abbrev pub flag_v : ℕ → Bool
flag_v = flag 128

abbrev pub flag_m : ℕ → Bool
flag_m = flag 64

abbrev pub flag_p : ℕ → Bool
flag_p = flag 32

-- the length counts header and data, not padding
abbrev pub length_at : List ℕ → ℕ → ℕ
length_at s at = number_at 3 s (at + 5)

-- the octets of an AVP's header, with V or without
abbrev pub header_of : Bool → ℕ
header_of v = cond v 12 8

-- vendor is 0 where V is clear
abbrev pub vendor_at : List ℕ → ℕ → ℕ
vendor_at s at = cond (flag_v (flags_at s at)) (number_at 4 s (at + 8)) 0

-- where the AVP after the one at this place stands
abbrev pub next_at : List ℕ → ℕ → ℕ
next_at s at = at + padded (length_at s at)

-- the AVP at a place of a list at this depth
unfoldable pub avp_at : List ℕ → ℕ → ℕ → Avp
avp_at s at depth = record {
  depth = depth;
  vendor = vendor_at s at;
  code = code_at s at;
  m = flag_m (flags_at s at);
  p = flag_p (flags_at s at);
  start = at + header_of (flag_v (flags_at s at));
  length = length_at s at - header_of (flag_v (flags_at s at));
}

-- an AVP is named by vendor and code together
abbrev pub named : Avp → ℕ → ℕ → Bool
named a vendor code = eqb a.vendor vendor && eqb a.code code

-- V is set exactly where the vendor is not 0: in every AVP of a walk by check 3, and in what the writer writes
abbrev pub has_v : ℕ → Bool
has_v vendor = not (eqb vendor 0)

-- the first octet of an AVP of the walk
abbrev pub place_of : Avp → ℕ
place_of a = a.start - header_of (has_v a.vendor)

-- the end of an AVP's data, which for a group is the end of its list
abbrev pub end_of : Avp → ℕ
end_of a = a.start + a.length
