-- Laws of an AVP's fields: the AVP at a place, with V and without.
use mathlib.Core.Path.{◌≡◌, refl}
use mathlib.Core.Bool.{Bool, true, false, cond}
use mathlib.Core.List.{List}
use Prim.Native.Nat.{ℕ, ◌+◌, ◌-◌, ◌≤◌}
use native.Mathlib.Omega.{arith}
use lib.Dec.{lit≤}
use Rattle.rules.specs.Octets.{number_at, padded}
use Rattle.rules.specs.Avp.{code_at, flags_at, flag_v, flag_m, flag_p, length_at, header_of, avp_at, end_of}
use Rattle.rules.proofs.Octets.{padded_behind}

module _ (s : List ℕ) (at depth : ℕ) where
  -- the AVP at a place, where V is known
  pub avp_at_by : (v : Bool) → flag_v (flags_at s at) ≡ v → avp_at s at depth ≡ record {
    depth = depth;
    vendor = cond v (number_at 4 s (at + 8)) 0;
    code = code_at s at;
    m = flag_m (flags_at s at);
    p = flag_p (flags_at s at);
    start = at + header_of v;
    length = length_at s at - header_of v;
  }
  unfolding avp_at
  avp_at_by v h = rw h

  -- an AVP's data starts behind its header and ends where its length says
  pub avp_at_start : (avp_at s at depth).start ≡ at + header_of (flag_v (flags_at s at))
  unfolding avp_at
  avp_at_start = refl

  pub avp_at_end : header_of (flag_v (flags_at s at)) ≤ length_at s at → end_of (avp_at s at depth) ≡ at + length_at s at
  unfolding avp_at
  avp_at_end h = omega arith

pub header_least : (v : Bool) → 8 ≤ header_of v
header_least true = lit≤ tt
header_least false = lit≤ tt

-- a header has a multiple of four octets
pub padded_header : (v : Bool) (n : ℕ) → padded (header_of v + n) ≡ header_of v + padded n
padded_header true n = padded_behind 3 n
padded_header false n = padded_behind 2 n

pub avp_at_depth : (s : List ℕ) (at depth : ℕ) → (avp_at s at depth).depth ≡ depth
unfolding avp_at
avp_at_depth s at depth = refl
