-- Octets put part by part are the octets of the whole: an AVP's header, an AVP, and the AVPs of a list.
use mathlib.Core.Path.{◌≡◌, sym, ap, ◌∙◌}
use mathlib.Core.Bool.{true, false}
use mathlib.Core.List.{List, [], ◌∷◌, ◌++◌, append-nil}
use Prim.Native.Nat.{ℕ, suc, ◌+◌, ◌-◌, ◌≤◌}
use native.Mathlib.Omega.{arith}
use borrow.Author.Tests.{eq-eqb, ne_eqb}
use lib.ListN.{length, set, take, drop, replicate, length-append, length-drop, length-replicate}
use lib.Seq.{sets, length-take-le}
use Rattle.rules.specs.declared.Avp.{Avp}
use Rattle.rules.specs.Octets.{octets, padded}
use Rattle.rules.specs.Wire.{vendor_octets, avp_flags, avp_header, avp_octets}
use Rattle.rules.proofs.Octets.{padded_least}
use Rattle.rules.proofs.demands.items.Sequences.{length-header}
use Rattle.octets.proofs.Puts.{sets-append}
use Rattle.output.proofs.Output.{octets_three, octets_four}
use Rattle.draft.specs.Drafts.{draft_cell, is_group_avp, header_for}
use Rattle.encoding.specs.Promise.{IsPut, IsWhole}

-- ---- an AVP's header

four_one_three : (out : List ℕ) (at : ℕ) (xs : List ℕ) (f : ℕ) (ys zs : List ℕ) → length xs ≡ 4 → length ys ≡ 3
    → sets out at (xs ++ (f ∷ (ys ++ zs))) ≡ sets (sets (set (sets out at xs) (at + 4) f) (at + 5) ys) (at + 8) zs
four_one_three out at xs f ys zs p q =
    let e : suc (at + 4) ≡ at + 5 = omega arith in
    let g : at + 5 + 3 ≡ at + 8 = omega arith in
    sets-append out at xs (f ∷ (ys ++ zs))
    ∙ ap (λ (n : ℕ). sets (set (sets out at xs) (at + n) f) (suc (at + n)) (ys ++ zs)) p
    ∙ ap (λ (n : ℕ). sets (set (sets out at xs) (at + 4) f) n (ys ++ zs)) e
    ∙ sets-append (set (sets out at xs) (at + 4) f) (at + 5) ys zs
    ∙ ap (λ (n : ℕ). sets (sets (set (sets out at xs) (at + 4) f) (at + 5) ys) (at + 5 + n) zs) q
    ∙ ap (λ (n : ℕ). sets (sets (set (sets out at xs) (at + 4) f) (at + 5) ys) n zs) g

module _ (s : List ℕ) (a : Avp) where
  -- what the code knows of the parts, one after the other
  module _ (out : List ℕ) (at : ℕ) (first : List ℕ) (is-first : first ≡ sets out at (octets 4 a.code)) (flags : ℕ)
      (is-flags : flags ≡ avp_flags (draft_cell s a)) (header : ℕ) (is-header : header ≡ header_for a)
      (second : List ℕ)
      (is-second : second ≡ sets (set first (at + 4) flags) (at + 5) (octets 3 (header + a.length))) where
    eight : (vendor : List ℕ)
        → sets out at (octets 4 a.code ++ (avp_flags (draft_cell s a) ∷ (octets 3 (header_for a + a.length) ++ vendor)))
        ≡ sets second (at + 8) vendor
    eight vendor =
        let size = header_for a + a.length in
        four_one_three out at (octets 4 a.code) (avp_flags (draft_cell s a)) (octets 3 size) vendor
        (octets_four a.code) (octets_three size)
        ∙ rw (← is-first, ← is-flags, ← is-header, ← is-second)

    pub header_without_vendor : a.vendor ≡ 0 → IsPut out at (avp_header (draft_cell s a)) second (at + 8)
    unfolding avp_header
    header_without_vendor v =
        let size : header_for a ≡ 8 = rw (eq-eqb a.vendor 0 v) in
        let none : vendor_octets (draft_cell s a) ≡ [] = rw (eq-eqb a.vendor 0 v) in
        record {
          is = sym (eight (vendor_octets (draft_cell s a)) ∙ ap (λ (l : List ℕ). sets second (at + 8) l) none);
          ends = ap (λ (n : ℕ). at + n) (sym (length-header (draft_cell s a) ∙ size));
        }

    pub header_with_vendor : (a.vendor ≡ 0 → ⊥)
        → (third : List ℕ) → third ≡ sets second (at + 8) (octets 4 a.vendor) → IsPut out at (avp_header (draft_cell s a)) third (at + 12)
    unfolding avp_header
    header_with_vendor v third e =
        let size : header_for a ≡ 12 = rw (ne_eqb a.vendor 0 v) in
        let all : vendor_octets (draft_cell s a) ≡ octets 4 a.vendor = rw (ne_eqb a.vendor 0 v) in
        record {
          is = e ∙ sym (eight (vendor_octets (draft_cell s a)) ∙ ap (λ (l : List ℕ). sets second (at + 8) l) all);
          ends = ap (λ (n : ℕ). at + n) (sym (length-header (draft_cell s a) ∙ size));
        }

-- ---- an AVP, behind its header

-- how many octets an AVP takes
pub length-avp : (s : List ℕ) (a : Avp) → length (avp_octets (draft_cell s a))
    ≡ header_for a + (length (draft_cell s a).octets + (padded a.length - a.length))
unfolding avp_octets
length-avp s a =
    let c = draft_cell s a in
    let pad : List ℕ = replicate (padded a.length - a.length) 0 in
    let zeros : length pad ≡ padded a.length - a.length = length-replicate (padded a.length - a.length) 0 in
    length-append (avp_header c) (c.octets ++ pad)
    ∙ ap (λ (n : ℕ). length (avp_header c) + n) (length-append c.octets pad)
    ∙ rw (length-header c, zeros)

-- the room that the header takes
pub room_header : (s : List ℕ) (a : Avp) (at n : ℕ) → at + length (avp_octets (draft_cell s a)) ≤ n → at + header_for a ≤ n
room_header s a at n h = omega (arith, length-avp s a)

module _ (s : List ℕ) (a : Avp) (whole : IsWhole s a) where
  -- a read group has no octets but its header
  pub put_group : is_group_avp a ≡ true → (out : List ℕ) (at : ℕ) (after : List ℕ) (next : ℕ)
      → IsPut out at (avp_header (draft_cell s a)) after next → IsPut out at (avp_octets (draft_cell s a)) after next
  unfolding avp_octets
  put_group g out at after next p =
      let c = draft_cell s a in
      let none : c.octets ≡ [] = rw g in
      let no-padding : padded a.length - a.length ≡ 0 = omega (arith, whole.group g) in
      let same : avp_header c ++ (c.octets ++ replicate (padded a.length - a.length) 0) ≡ avp_header c =
      ap (λ (l : List ℕ). avp_header c ++ (l ++ replicate (padded a.length - a.length) 0)) none
      ∙ ap (λ (n : ℕ). avp_header c ++ replicate n 0) no-padding
      ∙ append-nil (avp_header c) in
      record {
        is = p.is ∙ ap (sets out at) (sym same);
        ends = p.ends ∙ ap (λ (l : List ℕ). at + length l) (sym same);
      }

  module _ (part : is_group_avp a ≡ false) where
    -- the data, as the code takes it from the octets
    data_is : take (a.start + a.length - a.start) (drop a.start s) ≡ (draft_cell s a).octets
    data_is =
        let e : a.start + a.length - a.start ≡ a.length = omega arith in
        rw (part, e)

    pub data_long : length (take (a.start + a.length - a.start) (drop a.start s)) ≡ a.length
    data_long =
        let e : a.start + a.length - a.start ≡ a.length = omega arith in
        let k : a.length ≤ length (drop a.start s) = simp length-drop (omega (arith, whole.part part)) in
        ap (λ (n : ℕ). length (take n (drop a.start s))) e ∙ length-take-le a.length (drop a.start s) k

    -- the room that the header and the data with its padding take
    pub room_part : (at n : ℕ) → at + length (avp_octets (draft_cell s a)) ≤ n
        → at + (header_for a + padded a.length) ≤ n
    room_part at n h =
        let long : length (draft_cell s a).octets ≡ a.length = sym (ap length data_is) ∙ data_long in
        omega (arith, length-avp s a, padded_least a.length)

    pub put_part : (out : List ℕ) (at : ℕ) (first : List ℕ) (place : ℕ)
        → IsPut out at (avp_header (draft_cell s a)) first place
        → (second : List ℕ) → second ≡ sets first place (take (a.start + a.length - a.start) (drop a.start s))
        → (size : ℕ) → size ≡ padded a.length
        → (third : List ℕ) → third ≡ sets second (place + a.length) (replicate (size - a.length) 0)
        → IsPut out at (avp_octets (draft_cell s a)) third (place + size)
    unfolding avp_octets
    put_part out at first place p second q size z third t =
        let c = draft_cell s a in
        let pad : List ℕ = replicate (padded a.length - a.length) 0 in
        let h = length (avp_header c) in
        let both = sets (sets out at (avp_header c)) (at + h) c.octets in
        let long : length c.octets ≡ a.length = sym (ap length data_is) ∙ data_long in
        let here : sets out at (avp_header c ++ (c.octets ++ pad)) ≡ sets both (at + h + length c.octets) pad =
        sets-append out at (avp_header c) (c.octets ++ pad)
        ∙ sets-append (sets out at (avp_header c)) (at + h) c.octets pad in
        record {
          is =
              t
              ∙ rw (z, q, p.is, p.ends, data_is) (sym (here ∙ ap (λ (n : ℕ). sets both (at + h + n) pad) long));
          ends = omega (arith, p.ends, length-avp s a, length-header (draft_cell s a), z, long, padded_least a.length);
        }
