-- Two lists of octets at the same places: equal octets stand for equal numbers, and equal numbers have equal octets.
use mathlib.Core.Path.{◌≡◌, sym, ap, ◌∙◌}
use mathlib.Core.List.{List, ◌++◌}
use Prim.Native.Nat.{ℕ, ◌+◌, ◌-◌, ◌≤◌, ◌<◌}
use native.Mathlib.Omega.{arith}
use lib.ListN.{length, get_or, take, drop, length-drop, get_or-append}
use lib.Seq.{length-take-le, get_or-take, get_or-drop, ext_get_or}
use Rattle.rules.specs.Octets.{AreOctets, number, number_at, octets}
use Rattle.rules.proofs.Octets.{number_at_in}
use Rattle.rules.proofs.demands.octets.Digits.{octets_number_at}

-- what stands at a place, further on
pub get_d_past : (s l : List ℕ) (at i : ℕ) → drop at s ≡ l → at ≤ i → get_or s i 0 ≡ get_or l (i - at) 0
get_d_past s l at i e h =
    let q : i ≡ at + (i - at) = omega arith in
    ap (λ (j : ℕ). get_or s j 0) q ∙ sym (get_or-drop at s (i - at) 0) ∙ ap (λ (x : List ℕ). get_or x (i - at) 0) e

pub get_d_first : (s x y : List ℕ) (at i : ℕ) → drop at s ≡ x ++ y → at ≤ i → i < at + length x
    → get_or s i 0 ≡ get_or x (i - at) 0
get_d_first s x y at i e h k = get_d_past s (x ++ y) at i e h ∙ get_or-append x y 0 (i - at) (omega arith)

module _ (a b : List ℕ) (w at : ℕ) (ha : at + w ≤ length a) (hb : at + w ≤ length b) where
  part_length : (s : List ℕ) → at + w ≤ length s → length (take w (drop at s)) ≡ w
  part_length s h = length-take-le w (drop at s) (rw length-drop (omega arith))

  part_octet : (s : List ℕ) (i : ℕ) → i < w → get_or (take w (drop at s)) i 0 ≡ get_or s (at + i) 0
  part_octet s i h = get_or-take w (drop at s) i 0 h ∙ get_or-drop at s i 0

  pub part_same : ((i : ℕ) → at ≤ i → i < at + w → get_or a i 0 ≡ get_or b i 0) → take w (drop at a) ≡ take w (drop at b)
  part_same e =
      let la = part_length a ha in
      ext_get_or 0 (take w (drop at a)) (take w (drop at b)) (la ∙ sym (part_length b hb)) (λ i h.
      let k : i < w = omega arith in
      part_octet a i k ∙ e (at + i) (omega arith) (omega arith) ∙ sym (part_octet b i k))

  pub number_same : ((i : ℕ) → at ≤ i → i < at + w → get_or a i 0 ≡ get_or b i 0) → number_at w a at ≡ number_at w b at
  number_same e = number_at_in w a at ha ∙ ap number (part_same e) ∙ sym (number_at_in w b at hb)

  pub octet_same : AreOctets a → AreOctets b → number_at w a at ≡ number_at w b at → (i : ℕ) → at ≤ i → i < at + w
      → get_or a i 0 ≡ get_or b i 0
  octet_same oa ob e i h k =
      let p : take w (drop at a) ≡ take w (drop at b) =
      sym (octets_number_at w a at oa ha) ∙ ap (octets w) e ∙ octets_number_at w b at ob hb in
      let j : i - at < w = omega arith in
      let q : i ≡ at + (i - at) = omega arith in
      ap (λ (n : ℕ). get_or a n 0) q ∙ sym (part_octet a (i - at) j) ∙ ap (λ (l : List ℕ). get_or l (i - at) 0) p
      ∙ part_octet b (i - at) j
      ∙ ap (λ (n : ℕ). get_or b n 0) (sym q)
