-- Laws of octets put into an output: where they have room and where they have none, and the octets of a number.
use mathlib.Core.Path.{◌≡◌, refl, sym, ap, ◌∙◌}
use mathlib.Core.Bool.{true, false}
use mathlib.Core.List.{List, append_assoc}
use Prim.Native.Nat.{ℕ, suc, ◌+◌, ◌-◌, ◌≤◌, ◌<◌}
use native.Mathlib.Nat.{add-zero, div-one}
use native.Mathlib.Numerals.{add-one}
use native.Mathlib.Omega.{arith}
use borrow.Author.Tests.{le-leb, true-leb}
use borrow.Rule.Slice.PartMut.{put_mid}
use lib.Dec.{leb}
use lib.ListN.{length, get_or, set, take, drop, replicate, drop_of_length-le, length-drop, length-replicate}
use lib.Seq.{sets, sets-eq, drop-cons, drop-drop, length-take-le}
use Rattle.std.specs.Int.{w32, w64, to_be_bytes}
use Rattle.rules.specs.Octets.{octets}
use Rattle.output.specs.Output.{put_at}

pub octets_three : (n : ℕ) → length (octets 3 n) ≡ 3
unfolding octets
octets_three n = refl

pub octets_four : (n : ℕ) → length (octets 4 n) ≡ 4
unfolding octets
octets_four n = refl

-- the octets of a number of 32 bits, and the last three of one of 64
pub be_four : (n : ℕ) → to_be_bytes w32 n ≡ octets 4 n
unfolding octets
be_four n = rw (div-one n) refl

pub be_three : (n : ℕ) → drop 5 (to_be_bytes w64 n) ≡ octets 3 n
unfolding octets
be_three n = rw (div-one n) refl

module _ (out : List ℕ) (at : ℕ) (xs : List ℕ) where
  pub put_all : at + length xs ≤ length out → sets out at xs ≡ put_at out at xs
  unfolding put_at
  put_all h = rw (le-leb (at + length xs) (length out) h)

  -- what a caller that sees to the room takes from a promise
  pub put_fits : (count : ℕ) → length xs ≡ count → at + count ≤ length out → (after : List ℕ) → after ≡ put_at out at xs → after ≡ sets out at xs
  put_fits count long h after e = e ∙ sym (put_all (rw long h))

  -- as the code puts them: into a part of the output that they fill
  module _ (count : ℕ) (long : length xs ≡ count) where
    pub put_none : false ≡ leb (at + count) (length out) → out ≡ put_at out at xs
    unfolding put_at
    put_none no_room = rw (long, ← no_room)

    pub put_part : true ≡ leb (at + count) (length out) → (filled : List ℕ) → filled ≡ xs
        → put_mid at (at + count - at) out filled ≡ put_at out at xs
    put_part room filled e =
        let h : at + length xs ≤ length out = rw long (true-leb (at + count) (length out) room) in
        let k : at + count - at ≡ length xs = omega arith in
        rw (e, k, drop-drop (length xs) at out)
        (sym (sets-eq xs out at h ∙ append_assoc (take at out) xs (drop (at + length xs) out)))
        ∙ put_all h

-- octets that are put one after the other: what is left to put at i
abbrev pub run_left : List ℕ → List ℕ → ℕ → ℕ → List ℕ
run_left xs out at i = sets out (at + i) (drop i xs)

module _ (xs out : List ℕ) (at : ℕ) where
  pub run_all : run_left xs out at 0 ≡ sets out at xs
  run_all = ap (λ (n : ℕ). sets out n xs) (add-zero at)

  pub run_next : (i : ℕ) → i < length xs → run_left xs out at i ≡ run_left xs (set out (at + i) (get_or xs i 0)) at (i + 1)
  run_next i h =
      let e : suc (at + i) ≡ at + (i + 1) = omega arith in
      ap (λ (l : List ℕ). sets out (at + i) l) (drop-cons xs i 0 h)
      ∙ ap (λ (n : ℕ). sets (set out (at + i) (get_or xs i 0)) n (drop (suc i) xs)) e
      ∙ ap (λ (n : ℕ). sets (set out (at + i) (get_or xs i 0)) (at + (i + 1)) (drop n xs)) (sym (add-one i))

  pub run_end : (i : ℕ) → length xs ≤ i → run_left xs out at i ≡ out
  run_end i h = ap (λ (l : List ℕ). sets out (at + i) l) (drop_of_length-le xs h)

-- zeros, as many as the part has octets
module _ (out : List ℕ) (at count : ℕ) where
  pub zeros_none : false ≡ leb (at + count) (length out) → out ≡ put_at out at (replicate count 0)
  zeros_none = put_none out at (replicate count 0) count (length-replicate count 0)

  pub zeros_part : true ≡ leb (at + count) (length out) → (filled : List ℕ)
      → filled ≡ replicate (length (take (at + count - at) (drop at out))) 0
      → put_mid at (at + count - at) out filled ≡ put_at out at (replicate count 0)
  zeros_part room filled e =
      let h : at + count ≤ length out = true-leb (at + count) (length out) room in
      let long : length (take (at + count - at) (drop at out)) ≡ count =
      length-take-le (at + count - at) (drop at out) (simp length-drop (omega arith)) ∙ omega arith in
      put_part out at (replicate count 0) count (length-replicate count 0) room filled
      (e ∙ ap (λ (n : ℕ). replicate n 0) long)
