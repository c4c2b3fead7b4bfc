-- The flags octets of an AVP and of a command: the flags that were written are read.
use mathlib.Core.Path.{◌≡◌, refl}
use mathlib.Core.Bool.{Bool, true, false, cond}
use Prim.Native.Nat.{ℕ, ◌+◌}
use Rattle.rules.specs.Octets.{flag}

-- an octet of four flags from the top
abbrev pub flags_by : Bool → Bool → Bool → Bool → ℕ
flags_by a b c d = cond a 128 0 + cond b 64 0 + cond c 32 0 + cond d 16 0

-- what is read of it
pub record ReadFlags (octet : ℕ) (a b c d : Bool) : Type 0 where
  pub first : flag 128 octet ≡ a
  pub second : flag 64 octet ≡ b
  pub third : flag 32 octet ≡ c
  pub fourth : flag 16 octet ≡ d

pub read_flags : (a b c d : Bool) → ReadFlags (flags_by a b c d) a b c d
read_flags true true true true = record { first = refl; second = refl; third = refl; fourth = refl }
read_flags true true true false = record { first = refl; second = refl; third = refl; fourth = refl }
read_flags true true false true = record { first = refl; second = refl; third = refl; fourth = refl }
read_flags true true false false = record { first = refl; second = refl; third = refl; fourth = refl }
read_flags true false true true = record { first = refl; second = refl; third = refl; fourth = refl }
read_flags true false true false = record { first = refl; second = refl; third = refl; fourth = refl }
read_flags true false false true = record { first = refl; second = refl; third = refl; fourth = refl }
read_flags true false false false = record { first = refl; second = refl; third = refl; fourth = refl }
read_flags false true true true = record { first = refl; second = refl; third = refl; fourth = refl }
read_flags false true true false = record { first = refl; second = refl; third = refl; fourth = refl }
read_flags false true false true = record { first = refl; second = refl; third = refl; fourth = refl }
read_flags false true false false = record { first = refl; second = refl; third = refl; fourth = refl }
read_flags false false true true = record { first = refl; second = refl; third = refl; fourth = refl }
read_flags false false true false = record { first = refl; second = refl; third = refl; fourth = refl }
read_flags false false false true = record { first = refl; second = refl; third = refl; fourth = refl }
read_flags false false false false = record { first = refl; second = refl; third = refl; fourth = refl }
