-- Laws of octets that are read one after the other: the number so far, and one octet more.
use mathlib.Core.Path.{◌≡◌, refl, sym, ◌∙◌}
use mathlib.Core.List.{List}
use Prim.Native.Nat.{ℕ, ◌+◌, ◌-◌, ◌*◌, ◌≤◌, ◌<◌}
use native.Mathlib.Nat.{pow-suc}
use native.Mathlib.Numerals.{add-one}
use native.Mathlib.Omega.{arith}
use lib.ListN.{length, take, drop, get_or, length-drop}
use lib.Seq.{take-suc, take-take, length-take-le}
use Rattle.rules.specs.Octets.{number, number_at, IsNumber}
use Rattle.rules.proofs.Octets.{number_snoc, number_at_in}

module _ (xs : List ℕ) (i n x : ℕ) (so_far : IsNumber i (number (take i xs)) n) (is : x ≡ get_or xs i 0) (octet : x < 256)
  where
    pub read_next : i < length xs → IsNumber (i + 1) (number (take (i + 1) xs)) (n * 256 + x)
    read_next there = record {
      is = rw (add-one i, take-suc xs i 0 there, number_snoc, so_far.is, is) refl;
      below = rw (add-one i, pow-suc) (omega (arith, so_far.below, octet));
    }

-- all octets of a part of a list
module _ (w : ℕ) (s : List ℕ) (at : ℕ) (room : at + w ≤ length s) where
  pub part_long : length (take (at + w - at) (drop at s)) ≡ w
  part_long = length-take-le (at + w - at) (drop at s) (simp length-drop (omega arith)) ∙ omega arith

  pub read_whole : (i n : ℕ) → i ≡ w → IsNumber i (number (take i (take (at + w - at) (drop at s)))) n
      → IsNumber w (number_at w s at) n
  read_whole i n e read =
      let k : at + w - at ≡ w = omega arith in
      let all = rw (e, k, take-take w w (drop at s) (omega arith)) at read in
      record { is = all.is ∙ sym (number_at_in w s at room); below = all.below }
