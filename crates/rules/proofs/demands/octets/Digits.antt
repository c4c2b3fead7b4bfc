-- Octets are the digits of the number that they stand for: the number's own octets are those that were read, one law
-- over the width.
use mathlib.Core.Path.{◌≡◌, refl, sym, ap, ◌∙◌}
use mathlib.Core.List.{List, [], ◌∷◌, ◌++◌}
use Prim.Native.Nat.{ℕ, zero, suc, ◌+◌, ◌*◌, ◌/◌, ◌%◌, ◌^◌, ◌≤◌, ◌<◌}
use native.Mathlib.Nat.{mul_assoc, pow-suc, one-le-pow, mul-add-div_right, div-eq_of_lt, mul-le-mul_right}
use native.Mathlib.Omega.{arith}
use lib.ListN.{length, take, drop, get_or, length-drop, take-append-drop}
use lib.Dec.{lit<}
use lib.Seq.{get_or-drop, drop-drop, drop-cons, length-take-le}
use Rattle.rules.specs.Octets.{AreOctets, number, number_at, octets}
use Rattle.rules.proofs.Octets.{number_at_in}

pub octets-drop : (at : ℕ) (s : List ℕ) → AreOctets s → AreOctets (drop at s)
octets-drop at s o = λ i. rw (get_or-drop at s i 0) (o (at + i))

power_pos : (w : ℕ) → 0 < 256 ^ w
power_pos w = one-le-pow w 256 (lit< tt)

-- what stands above the last w octets of a number does not matter to them
octets_over : (w k n : ℕ) → octets w (k * 256 ^ w + n) ≡ octets w n
unfolding octets
octets_over zero k n = refl
octets_over (suc w) k n =
    let e : k * 256 ^ suc w ≡ k * 256 * 256 ^ w = rw (pow-suc, mul_assoc) (omega arith) in
    let d : (k * 256 + n / 256 ^ w) % 256 ≡ n / 256 ^ w % 256 = omega arith in
    rw (e, mul-add-div_right (power_pos w) (k * 256) n, octets_over w (k * 256) n, d)

pub number_below : (w : ℕ) (s : List ℕ) → AreOctets s → w ≤ length s → number (take w s) < 256 ^ w
number_below zero s o h = omega arith
number_below (suc w) [] o h = absurd (omega arith)
number_below (suc w) (x ∷ s) o h =
    let ih = number_below w s (λ i. o (suc i)) (omega arith) in
    let l : length (take w s) ≡ w = length-take-le w s (omega arith) in
    let p : x * 256 ^ w ≤ 255 * 256 ^ w = mul-le-mul_right (256 ^ w) (omega (arith, o 0)) in
    rw (l, pow-suc) (omega arith)

-- the octets of a number that w octets stand for are those octets
digits : (w : ℕ) (s : List ℕ) → AreOctets s → w ≤ length s → octets w (number (take w s)) ≡ take w s
unfolding octets
digits zero s o h = refl
digits (suc w) [] o h = absurd (omega arith)
digits (suc w) (x ∷ s) o h =
    let ih = digits w s (λ i. o (suc i)) (omega arith) in
    let l : length (take w s) ≡ w = length-take-le w s (omega arith) in
    let b : number (take w s) / 256 ^ w ≡ 0 = div-eq_of_lt (number_below w s (λ i. o (suc i)) (omega arith)) in
    let d : (x + 0) % 256 ≡ x = omega (arith, o 0) in
    rw (l, mul-add-div_right (power_pos w) x (number (take w s)), b, d, octets_over w x (number (take w s)), ih)

pub octets_number_at : (w : ℕ) (s : List ℕ) (at : ℕ) → AreOctets s → at + w ≤ length s
    → octets w (number_at w s at) ≡ take w (drop at s)
octets_number_at w s at o h =
    ap (octets w) (number_at_in w s at h) ∙ digits w (drop at s) (octets-drop at s o) (rw length-drop (omega arith))

pub number_at_below : (w : ℕ) (s : List ℕ) (at : ℕ) → AreOctets s → at + w ≤ length s → number_at w s at < 256 ^ w
number_at_below w s at o h =
    rw (number_at_in w s at h) (number_below w (drop at s) (octets-drop at s o) (rw length-drop (omega arith)))

-- what stands at a place is the octets of the number there, and the rest
pub cut : (s : List ℕ) (at n to : ℕ) → to ≡ at + n → drop at s ≡ take n (drop at s) ++ drop to s
cut s at n to e =
    sym (take-append-drop n (drop at s))
    ∙ ap (λ (l : List ℕ). take n (drop at s) ++ l) (drop-drop n at s ∙ ap (λ (k : ℕ). drop k s) (sym e))

pub number_first : (w : ℕ) (s : List ℕ) (at to : ℕ) → AreOctets s → at + w ≤ length s → to ≡ at + w
    → drop at s ≡ octets w (number_at w s at) ++ drop to s
number_first w s at to o h e =
    cut s at w to e ∙ ap (λ (l : List ℕ). l ++ drop to s) (sym (octets_number_at w s at o h))

pub octet_first : (s : List ℕ) (at to : ℕ) → at < length s → to ≡ at + 1 → drop at s ≡ get_or s at 0 ∷ drop to s
octet_first s at to h e =
    let q : suc at ≡ to = omega arith in
    drop-cons s at 0 h ∙ ap (λ (k : ℕ). get_or s at 0 ∷ drop k s) q
