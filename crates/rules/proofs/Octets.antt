-- Laws of octets and numbers: big-endian numbers over the width, in the form in which code reads them.
use mathlib.Core.Path.{◌≡◌, refl, sym, ap, ◌∙◌}
use mathlib.Core.List.{List, [], ◌∷◌, ◌++◌}
use Prim.Native.Nat.{ℕ, zero, suc, ◌+◌, ◌-◌, ◌*◌, ◌^◌, ◌≤◌, ◌<◌}
use native.Mathlib.Nat.{sub-zero, zero-sub, add-zero, mul_assoc, pow-suc, one-le-pow}
use native.Mathlib.Omega.{arith}
use native.Mathlib.Numerals.{add-one}
use borrow.Author.Tests.{le-leb, lt-leb}
use lib.ListN.{length, take, drop, get_or, length-append, length-drop}
use lib.Seq.{take-suc, get_or-drop, drop-drop, drop-nil, take-nil, take-take, length-take-le}
use lib.Dec.{lit<}
use Rattle.rules.specs.Octets.{number, number_at, IsNumber, padded, IsPadded}

-- where the octets lie in s
pub number_at_in : (w : ℕ) (s : List ℕ) (at : ℕ) → at + w ≤ length s → number_at w s at ≡ number (take w (drop at s))
unfolding number_at
number_at_in w s at h = simp (le-leb (at + w) (length s) h)

-- where they do not
pub number_at_out : (w : ℕ) (s : List ℕ) (at : ℕ) → length s < at + w → number_at w s at ≡ 0
unfolding number_at
number_at_out w s at h = simp (lt-leb (at + w) (length s) h)

-- a clause of `number`, as an equation
number_cons : (x : ℕ) (xs : List ℕ) → number (x ∷ xs) ≡ x * 256 ^ length xs + number xs
number_cons x xs = refl

-- one octet more at the end
pub number_snoc : (xs : List ℕ) (y : ℕ) → number (xs ++ (y ∷ [])) ≡ number xs * 256 + y
number_snoc [] y = omega arith
number_snoc (x ∷ xs) y =
    let e = number_snoc xs y in
    number_cons x (xs ++ (y ∷ [])) ∙ rw (e, length-append, add-one, pow-suc, ← mul_assoc) (omega arith)

-- the octets at a place, from the first to the last, each in its digit
abbrev pub digits_at : ℕ → List ℕ → ℕ → ℕ
digits_at zero s at = 0
digits_at (suc zero) s at = get_or s at 0
digits_at (suc (suc w)) s at = digits_at (suc w) s at * 256 + get_or s (at + suc w) 0

number_take_suc : (w : ℕ) (s : List ℕ) (at : ℕ) → at + suc w ≤ length s
    → number (take (suc w) (drop at s)) ≡ number (take w (drop at s)) * 256 + get_or s (at + w) 0
number_take_suc w s at h =
    let k : w < length (drop at s) = simp length-drop (omega arith) in
    ap number (take-suc (drop at s) w 0 k) ∙ number_snoc (take w (drop at s)) (get_or (drop at s) w 0) ∙ rw get_or-drop

number_digits : (w : ℕ) (s : List ℕ) (at : ℕ) → at + w ≤ length s → number (take w (drop at s)) ≡ digits_at w s at
number_digits zero s at h = refl
number_digits (suc zero) s at h = number_take_suc zero s at h ∙ rw add-zero (omega arith)
number_digits (suc (suc w)) s at h =
    let e = number_digits (suc w) s at (omega arith) in
    number_take_suc (suc w) s at h ∙ rw e

-- the one fact over the width: what a reading of w octets computes
pub number_at_digits : (w : ℕ) (s : List ℕ) (at : ℕ) → at + w ≤ length s → number_at w s at ≡ digits_at w s at
number_at_digits w s at h = number_at_in w s at h ∙ number_digits w s at h

-- a reading of octets that do not lie in s
pub no_number_lem : (w : ℕ) (s : List ℕ) (at : ℕ) → length s < at + w → IsNumber w (number_at w s at) 0
no_number_lem w s at h = record { is = sym (number_at_out w s at h); below = one-le-pow w 256 (lit< tt) }

-- ---- a length with padding

-- 02 [4]: it is the least multiple of four that is no smaller
pub padded_rule : (n : ℕ) → IsPadded n (padded n)
unfolding padded
padded_rule n = record { multiple = omega arith; no_smaller = omega arith; least = λ k four room. omega arith }

-- and no other number is
pub padded_unique : (n m k : ℕ) → IsPadded n m → IsPadded n k → m ≡ k
padded_unique n m k a b =
    omega (arith, a.least k b.multiple b.no_smaller, b.least m a.multiple a.no_smaller)

-- padding takes nothing away
pub padded_least : (n : ℕ) → n ≤ padded n
padded_least n = (padded_rule n).no_smaller

-- and adds three octets at most
pub padded_near : (n : ℕ) → padded n ≤ n + 3
unfolding padded
padded_near n = omega arith

-- a multiple of four has no padding
pub padded_multiple : (n k : ℕ) → n ≡ k * 4 → padded n ≡ n
unfolding padded
padded_multiple n k e = omega arith

-- a multiple of four in front of a length leaves its padding as it is
pub padded_behind : (k n : ℕ) → padded (k * 4 + n) ≡ k * 4 + padded n
unfolding padded
padded_behind k n = omega arith

-- ---- numbers in a part of a list

drop-take : (k n : ℕ) (l : List ℕ) → drop k (take n l) ≡ take (n - k) (drop k l)
drop-take zero n l = rw (sub-zero n)
drop-take (suc k) zero l = drop-nil (suc k) ∙ rw (zero-sub (suc k))
drop-take (suc k) (suc n) [] = sym (take-nil (suc n - suc k))
drop-take (suc k) (suc n) (x ∷ l) =
    let e : suc n - suc k ≡ n - k = omega arith in
    rw e (drop-take k n l)

-- the octets of a part are those of the whole, further on
pub number_at_part : (w : ℕ) (s : List ℕ) (at n k : ℕ) → k + w ≤ n → at + n ≤ length s
    → number_at w (take n (drop at s)) k ≡ number_at w s (at + k)
number_at_part w s at n k h r =
    let long : length (take n (drop at s)) ≡ n = length-take-le n (drop at s) (simp length-drop (omega arith)) in
    number_at_in w (take n (drop at s)) k (rw long h)
    ∙ ap number (ap (take w) (drop-take k n (drop at s) ∙ ap (take (n - k)) (drop-drop k at s))
    ∙ take-take w (n - k) (drop (at + k) s) (omega arith))
    ∙ sym (number_at_in w s (at + k) (omega arith))
