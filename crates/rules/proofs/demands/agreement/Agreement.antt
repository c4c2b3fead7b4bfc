-- Demand 3, its first half: two accepted commands mean the same if and only if they agree.
use mathlib.Core.Path.{◌≡◌, sym, ap, ◌∙◌}
use Rattle.rules.specs.Verdict.{no_refusal}
use mathlib.Core.Bool.{Bool, cond}
use mathlib.Core.List.{List, map}
use mathlib.Core.Logic.{◌↔◌}
use Prim.Native.Nat.{ℕ, ◌+◌, ◌*◌, ◌/◌, ◌%◌, ◌<◌}
use native.Mathlib.Nat.{div-div-eq-div-mul}
use native.Mathlib.Omega.{arith}
use borrow.Author.Tests.{ltb-true, ltb-false, eqb-true, eqb-false, ne_eqb}
use lib.Dec.{ltb, eqb}
use lib.ListN.{length, get_or, length-map}
use Rattle.rules.specs.Octets.{AreOctets, flag}
use Rattle.rules.specs.Header.{command_flags, hop_by_hop, end_to_end}
use Rattle.rules.specs.Dictionary.{dictionary}
use Rattle.rules.specs.Walk.{avps_of}
use Rattle.rules.specs.Command.{walk_of, command_outcome}
use Rattle.rules.specs.Meaning.{Meaning, meaning_of}
use Rattle.rules.specs.Agreement.{compared, Agree}
use Rattle.rules.proofs.Walk.{by_cases}
use Rattle.rules.proofs.Meanings.{same_fields}
use Rattle.rules.proofs.demands.items.Items.{cell_in, octets_of}
use Rattle.rules.proofs.demands.items.Trees.{size_of}
use Rattle.rules.proofs.demands.items.Lists.{tights, size_octets}
use Rattle.rules.proofs.demands.read.OneItem.{flag_value}
use Rattle.rules.proofs.demands.agreement.Depths.{same_cells}
use Rattle.rules.proofs.demands.agreement.Paddings.{padding_below}
use Rattle.rules.proofs.demands.agreement.Places.{number_same, octet_same}
use Rattle.rules.proofs.demands.agreement.Alike.{same_octets, Alike, same_flats}
use Rattle.rules.proofs.demands.read.Commands.{AcceptedItems, accepted_items, avps_are, cells_are, count_is}

-- ---- of the flags octet R, P, E, T

same_bit : (value f g : ℕ) → flag value f ≡ flag value g → f / value % 2 * value ≡ g / value % 2 * value
same_bit value f g e = sym (flag_value value f) ∙ ap (λ (b : Bool). cond b value 0) e ∙ flag_value value g

-- the upper four bits are the four flags
upper-sum : (f : ℕ) → f < 256 → f / 16 * 16 ≡ f / 128 % 2 * 128 + f / 64 % 2 * 64 + f / 32 % 2 * 32 + f / 16 % 2 * 16
upper-sum f h =
    let x = f / 16 in
    let a : f / 32 ≡ x / 2 = sym (div-div-eq-div-mul f 16 2) in
    let b : f / 64 ≡ x / 2 / 2 = sym (div-div-eq-div-mul f 32 2) ∙ ap (λ (n : ℕ). n / 2) a in
    let c : f / 128 ≡ x / 2 / 2 / 2 = sym (div-div-eq-div-mul f 64 2) ∙ ap (λ (n : ℕ). n / 2) b in
    rw (a, b, c) (omega arith)

module _ (f g : ℕ) where
  upper_same : f < 256 → g < 256 → flag 128 f ≡ flag 128 g → flag 64 f ≡ flag 64 g → flag 32 f ≡ flag 32 g
      → flag 16 f ≡ flag 16 g
      → f / 16 ≡ g / 16
  upper_same hf hg a b c d =
      let e : f / 16 * 16 ≡ g / 16 * 16 =
      upper-sum f hf
      ∙ rw (same_bit 128 f g a, same_bit 64 f g b, same_bit 32 f g c, same_bit 16 f g d) (sym (upper-sum g hg)) in
      omega arith

  same_upper : (k : ℕ) → f / 16 ≡ g / 16 → flag (16 * k) f ≡ flag (16 * k) g
  same_upper k e =
      let h : f / (16 * k) ≡ g / (16 * k) =
      sym (div-div-eq-div-mul f 16 k) ∙ ap (λ (n : ℕ). n / k) e ∙ div-div-eq-div-mul g 16 k in
      ap (λ (n : ℕ). eqb (n % 2) 1) h

-- ---- the theorem

module _ (a b : List ℕ) (oa : AreOctets a) (ob : AreOctets b) (ka : AcceptedItems a) (kb : AcceptedItems b) where
  -- the header's octets, of which the flags are the fifth
  header_octet : meaning_of a ≡ meaning_of b → length a ≡ length b → (i : ℕ) → i < 20 → (i ≡ 4 → ⊥)
      → get_or a i 0 ≡ get_or b i 0
  header_octet e n i h other =
      let la = ka.header.enough in
      let lb = kb.header.enough in
      by_cases (ltb i 1)
      (λ k.
      let z : i ≡ 0 = omega (arith, ltb-true i 1 k) in
      rw z (ka.header.version_is ∙ sym kb.header.version_is))
      (λ k1. by_cases (ltb i 4)
      (λ k. octet_same a b 3 1 (omega arith) (omega arith) oa ob (ka.header.field_is ∙ n ∙ sym kb.header.field_is)
      i (ltb-false i 1 k1) (ltb-true i 4 k))
      (λ k4. by_cases (ltb i 8)
      (λ k. octet_same a b 3 5 (omega arith) (omega arith) oa ob (ka.header.code_is ∙ sym kb.header.code_is)
      i (omega (arith, ltb-false i 4 k4)) (ltb-true i 8 k))
      (λ k8. by_cases (ltb i 12)
      (λ k. octet_same a b 4 8 (omega arith) (omega arith) oa ob
      (ka.header.application_is ∙ sym kb.header.application_is)
      i (ltb-false i 8 k8) (ltb-true i 12 k))
      (λ k12. by_cases (ltb i 16)
      (λ k. octet_same a b 4 12 (omega arith) (omega arith) oa ob (ap (λ (m : Meaning). m.hop_by_hop) e)
      i (ltb-false i 12 k12) (ltb-true i 16 k))
      (λ k16. octet_same a b 4 16 (omega arith) (omega arith) oa ob (ap (λ (m : Meaning). m.end_to_end) e)
      i (ltb-false i 16 k16) h)))))

  -- R, P, E, T, which are what is compared of the flags octet
  flags_same : meaning_of a ≡ meaning_of b → compared a 4 ≡ compared b 4
  flags_same e =
      let u = upper_same (command_flags a) (command_flags b) (oa 4) (ob 4) (ap (λ (m : Meaning). m.r) e)
      (ap (λ (m : Meaning). m.p) e) (ap (λ (m : Meaning). m.e) e) (ap (λ (m : Meaning). m.t) e) in
      omega arith

  means_agree : meaning_of a ≡ meaning_of b → Agree a b
  means_agree e =
      let xs = ka.items in
      let ys = kb.items in
      let f = ka.listed in
      let g = kb.listed in
      let c : map cell_in xs ≡ map cell_in ys =
      sym (cells_are a ka) ∙ ap (λ (m : Meaning). m.cells) e ∙ cells_are b kb in
      let tx = tights dictionary xs f.sizes in
      let l : length (octets_of xs) ≡ length (octets_of ys) =
      size_octets dictionary xs f.fit tx ∙ ap (size_of dictionary) c
      ∙ sym (size_octets dictionary ys g.fit (tights dictionary ys g.sizes)) in
      let n : length a ≡ length b = omega (arith, ka.long, kb.long) in
      record {
        long = n;
        same = λ i h1 h2 h3. by_cases (eqb i 4)
            (λ k. rw (eqb-true i 4 k) (flags_same e))
            (λ k. rw k (by_cases (ltb i 20)
            (λ h. header_octet e n i (ltb-true i 20 h) (eqb-false i 4 k))
            (λ h. same_octets dictionary xs ys a b 20 i f.fit g.fit tx c ka.tail kb.tail (ltb-false i 20 h)
            (rw (avps_are a ka) at h2))));
      }

  -- elsewhere the octet
  compared_octet : (i : ℕ) → (i ≡ 4 → ⊥) → compared a i ≡ compared b i → get_or a i 0 ≡ get_or b i 0
  compared_octet i other e = rw (ne_eqb i 4 other) at e

  agree_means : Agree a b → meaning_of a ≡ meaning_of b
  agree_means g =
      let xs = ka.items in
      let ys = kb.items in
      let la = ka.header.enough in
      let lb = kb.header.enough in
      let first : (i : ℕ) → i < 20 → compared a i ≡ compared b i =
      λ i h. g.same i (omega arith) (rw (avps_are a ka) (padding_below xs 20 i h))
      (rw (avps_are b kb) (padding_below ys 20 i h)) in
      let head : (i : ℕ) → i < 20 → (i ≡ 4 → ⊥) → get_or a i 0 ≡ get_or b i 0 =
      λ i h other. compared_octet i other (first i h) in
      let like : Alike dictionary a b 20 xs ys =
      λ i h1 h2 h3 h4. compared_octet i (λ q. omega arith)
      (g.same i (omega (arith, ka.long)) (rw (avps_are a ka) h3) (rw (avps_are b kb) h4)) in
      let c : map cell_in xs ≡ map cell_in ys =
      same_cells dictionary 1 xs ys ka.listed kb.listed
      (same_flats dictionary xs ys a b 20 ka.listed.fit kb.listed.fit (tights dictionary xs ka.listed.sizes)
      (tights dictionary ys kb.listed.sizes) ka.tail kb.tail
      (omega (arith, ka.long, kb.long, g.long)) like) in
      let count : length (avps_of (walk_of a)) ≡ length (avps_of (walk_of b)) =
      count_is a ka ∙ sym (length-map xs cell_in) ∙ ap length c ∙ length-map ys cell_in ∙ sym (count_is b kb) in
      let hop : hop_by_hop a ≡ hop_by_hop b =
      number_same a b 4 12 (omega arith) (omega arith) (λ i h k. head i (omega arith) (λ q. omega arith)) in
      let end : end_to_end a ≡ end_to_end b =
      number_same a b 4 16 (omega arith) (omega arith) (λ i h k. head i (omega arith) (λ q. omega arith)) in
      let upper : command_flags a / 16 ≡ command_flags b / 16 = omega (arith, first 4 (omega arith)) in
      let u : (k : ℕ) → flag (16 * k) (command_flags a) ≡ flag (16 * k) (command_flags b) =
      λ k. same_upper (command_flags a) (command_flags b) k upper in
      same_fields (meaning_of a) (meaning_of b) (u 8) (u 4) (u 2) (u 1) hop end count (cells_are a ka ∙ c ∙ sym (cells_are b kb))

-- demand 3, first half
pub same_meaning : (a b : List ℕ) → AreOctets a → AreOctets b → command_outcome a ≡ no_refusal → command_outcome b ≡ no_refusal
    → (meaning_of a ≡ meaning_of b) ↔ Agree a b
same_meaning a b oa ob pa pb =
    let ka = accepted_items a oa pa in
    let kb = accepted_items b ob pb in
    (means_agree a b oa ob ka kb, agree_means a b oa ob ka kb)
