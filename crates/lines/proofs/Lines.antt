-- Laws of lines: how they are put together from their numbers and words, and how long they are.
use mathlib.Core.Path.{◌≡◌, refl}
use mathlib.Core.Bool.{Bool, true, false, cond}
use mathlib.Core.List.{List, [], ◌∷◌, ◌++◌, append_assoc, append-nil}
use Prim.Native.Nat.{ℕ, ◌^◌, ◌≤◌, ◌<◌}
use native.Mathlib.Omega.{arith}
use lib.Dec.{eqb}
use lib.ListN.{length, length-append}
use mir.Val.{bool_byte}
use Rattle.rules.specs.declared.Verdict.{Verdict}
use Rattle.rules.specs.Lines.{decimal, space, spaced, command_line}
use Rattle.rules.specs.Book.{acceptance}
use Rattle.lines.specs.Promise.{Put}
use Rattle.lines.proofs.Text.{joined}
use Rattle.lines.proofs.Decimals.{decimal_short_32}

-- pieces in the order in which they are put
pub joined_twice : (xs ys zs : List ℕ) → (xs ++ ys) ++ zs ≡ xs ++ (ys ++ zs)
joined_twice xs ys zs = append_assoc xs ys zs

-- a space and a number
pub put_number : {before : List ℕ} {at middle : ℕ} {between : List ℕ} {r : ℕ} {after : List ℕ} (n : ℕ)
    → Put before at (space ∷ []) middle between → Put between middle (decimal n) r after → Put before at (spaced (n ∷ [])) r after
put_number n p q = rw append-nil (joined p q)

-- 1 where a command is accepted, as code counts it
one_where : (t : Bool) → bool_byte t ≡ cond t 1 0
one_where true = refl
one_where false = refl

pub acceptance_is : (v : Verdict) → bool_byte (eqb v.number 0) ≡ acceptance v
acceptance_is v = one_where (eqb v.number 0)

-- a command's line, where ordinal and offset are numbers of 32 bits too
pub command_line_short : (ordinal offset : ℕ) (v : Verdict) → ordinal < 2 ^ 32 → offset < 2 ^ 32
    → v.number < 2 ^ 32 → v.place < 2 ^ 32 → v.vendor < 2 ^ 32 → v.code < 2 ^ 32
    → length (command_line ordinal offset v) ≤ 66
command_line_short ordinal offset v o f n p d c =
    simp length-append
    (omega (
      arith,
      decimal_short_32 ordinal o,
      decimal_short_32 offset f,
      decimal_short_32 v.number n,
      decimal_short_32 v.place p,
      decimal_short_32 v.vendor d,
      decimal_short_32 v.code c,
    ))
