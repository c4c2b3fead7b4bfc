-- Laws of octets and numbers: what the writer gives to a number is read back as it, at every width.
use mathlib.Core.Path.{◌≡◌, refl, sym, ap, ◌∙◌}
use mathlib.Core.List.{List, ◌∷◌, ◌++◌}
use Prim.Native.Nat.{ℕ, zero, suc, ◌+◌, ◌-◌, ◌*◌, ◌%◌, ◌^◌, ◌≤◌, ◌<◌}
use native.Mathlib.Nat.{mod-eq_of_lt, mod-one, pow-suc, mul_comm, one-le-pow, add-zero}
use native.Mathlib.Omega.{arith}
use lib.Arith.{mod-mul}
use lib.Dec.{leb, lit<}
use lib.ListN.{length, get_or, take, drop, length-append, length-drop}
use lib.Seq.{get_or-drop, drop-drop, drop_at, take_at, take-append-le, drop-append-le}
use Rattle.rules.specs.Octets.{number, number_at, octets}
use Rattle.rules.proofs.Octets.{number_at_in}
use Rattle.rules.proofs.Walk.{by_cases}

pub length-octets : (w n : ℕ) → length (octets w n) ≡ w
unfolding octets
length-octets zero n = refl
length-octets (suc w) n = ap suc (length-octets w n)

-- the low digits of a number, of which there are w
number_low : (w n : ℕ) → number (octets w n) ≡ n % 256 ^ w
unfolding octets
number_low zero n = sym (mod-one n)
number_low (suc w) n =
    let e = number_low w n in
    let l = length-octets w n in
    let p : 256 ^ suc w ≡ 256 * 256 ^ w = pow-suc 256 w ∙ mul_comm (256 ^ w) 256 in
    rw (e, l, p) (sym (mod-mul n (lit< tt) (one-le-pow w 256 (lit< tt))))

-- a number of no octets
no_octets : (s : List ℕ) (at : ℕ) → number_at 0 s at ≡ 0
unfolding number_at
no_octets s at = by_cases (leb (at + 0) (length s)) (λ h. rw h) (λ h. rw h)

pub number_octets : (w n : ℕ) → n < 256 ^ w → number (octets w n) ≡ n
number_octets w n h = number_low w n ∙ mod-eq_of_lt h

-- ---- what stands at a place

-- past what stands there
pub drop_past : (s x y : List ℕ) (at n : ℕ) → drop at s ≡ x ++ y → length x ≡ n → drop (at + n) s ≡ y
drop_past s x y at n e h = sym (drop-drop n at s) ∙ ap (drop n) e ∙ drop_at x y n h

pub drop-on : (s x y : List ℕ) (at to : ℕ) → to ≡ at + length x → drop at s ≡ x ++ y → drop to s ≡ y
drop-on s x y at to q e = ap (λ (k : ℕ). drop k s) q ∙ drop_past s x y at (length x) e refl

-- the first octet there
pub octet_at : (s y : List ℕ) (at x : ℕ) → drop at s ≡ x ∷ y → get_or s at 0 ≡ x
octet_at s y at x e =
    ap (λ (k : ℕ). get_or s k 0) (sym (add-zero at)) ∙ sym (get_or-drop at s 0 0) ∙ ap (λ (l : List ℕ). get_or l 0 0) e

-- a number that stands there
pub number_at_lem : (w : ℕ) (s rest : List ℕ) (at n : ℕ) → drop at s ≡ octets w n ++ rest → n < 256 ^ w
    → number_at w s at ≡ n
number_at_lem zero s rest at n e h = no_octets s at ∙ omega arith
number_at_lem (suc w) s rest at n e h =
    let l = length-octets (suc w) n in
    let d : length s - at ≡ suc w + length rest =
    sym (length-drop at s) ∙ ap length e ∙ length-append (octets (suc w) n) rest ∙ rw l in
    number_at_in (suc w) s at (omega arith)
    ∙ ap number (ap (take (suc w)) e ∙ take_at (octets (suc w) n) rest (suc w) l)
    ∙ number_octets (suc w) n h

-- a number in the front of a list is the front's own
pub number_front : (w : ℕ) (s rest : List ℕ) (at : ℕ) → at + w ≤ length s → number_at w (s ++ rest) at ≡ number_at w s at
number_front w s rest at h =
    let l = length-append s rest in
    let d = length-drop at s in
    number_at_in w (s ++ rest) at (omega arith)
    ∙ ap number (ap (take w) (drop-append-le at s rest (omega arith)) ∙ take-append-le w (drop at s) rest (omega arith))
    ∙ sym (number_at_in w s at h)
