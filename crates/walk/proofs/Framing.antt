-- What check 2 tells of an AVP that passes it, and check 2 by the fields that are read from the rest of the list.
use mathlib.Core.Path.{◌≡◌, refl, sym, ap, ◌∙◌}
use Rattle.std.specs.Prelude.{Result, Err, Ok}
use mathlib.Core.Bool.{Bool, true, false, cond, ◌||◌}
use mathlib.Core.List.{List}
use Prim.Native.Nat.{ℕ, ◌+◌, ◌-◌, ◌≤◌, ◌<◌}
use native.Mathlib.Nat.{add-zero}
use native.Mathlib.Omega.{arith}
use lib.Dec.{ltb}
use lib.ListN.{length, get_or, take, drop, length-drop}
use lib.Seq.{length-take-le, get_or-take, get_or-drop}
use Rattle.rules.specs.declared.Avp.{Avp}
use Rattle.rules.specs.declared.Verdict.{Verdict}
use Rattle.rules.specs.Octets.{number_at, padded}
use Rattle.rules.specs.Verdict.{verdict, refuse_if, Outcome, no_refusal}
use Rattle.rules.specs.Avp.{code_at, flags_at, flag_v, length_at, header_of, avp_at}
use Rattle.rules.specs.declared.Entry.{Entry}
use Rattle.rules.specs.Walk.{Standing, most_avps, framing, checked_avp, checked, Checked, Fault, Plain, Group}
use Rattle.rules.proofs.Octets.{number_at_part}
use Rattle.rules.proofs.Fields.{avp_at_by}
use Rattle.rules.proofs.Passed.{Framed, framed}
use Rattle.rules.proofs.Walk.{framing_left, framing_vendor_left, framing_by, checked_on}
use Rattle.walk.specs.declared.check.Passed.{Passed}
use Rattle.walk.specs.Promise.{passed_of, frame_of, misfit, avp_by}

-- ---- the length field

refuse_either : (b c : Bool) (o : Outcome) → refuse_if b o (refuse_if c o no_refusal) ≡ refuse_if (b || c) o no_refusal
refuse_either true c o = refl
refuse_either false c o = refl

-- ---- what check 2 handed back

held : (o : Outcome) (a x : Avp) → Ok a ≡ frame_of o x → (o ≡ no_refusal) × (x ≡ a)
held (Ok u) a x e = (refl, cc)
held (Err v) a x e = let z : ◌≡◌ {A = ℕ} 0 1 = cc in absurd (omega arith)

broken : (o : Outcome) (v : Verdict) (x : Avp) → Err v ≡ frame_of o x → o ≡ Err v
broken (Ok u) v x e = let z : ◌≡◌ {A = ℕ} 0 1 = cc in absurd (omega arith)
broken (Err u) v x e = cc

module _ (s : List ℕ) (w : Standing) where
  -- what check 2 hands back where the walk stands
  abbrev frame_here : Result Avp Verdict
  frame_here = frame_of (framing s w.at w.end) (avp_at s w.at w.depth)

  pub held_framed : {a : Avp} → Ok a ≡ frame_here → Framed s w.at w.end
  held_framed {a} e = framed s w.at w.end (held (framing s w.at w.end) a (avp_at s w.at w.depth) e).0

  module _ (dict : List Entry) (few : w.count < most_avps) where
    pub held_checked : {a : Avp} → Ok a ≡ frame_here → checked dict s w ≡ checked_avp dict s w.at a
    held_checked {a} e =
        let h = held (framing s w.at w.end) a (avp_at s w.at w.depth) e in
        checked_on dict s w few h.0 a (sym h.1)

-- ---- what the checks hand back

module _ (entry : ℕ → ℕ → ℕ) where
  pub passed_fault : (c : Checked) (v : Verdict) → Err v ≡ passed_of entry c → c ≡ Fault v
  passed_fault (Fault u) v e = cc
  passed_fault (Plain a) v e = let z : ◌≡◌ {A = ℕ} 0 1 = cc in absurd (omega arith)
  passed_fault (Group a) v e = let z : ◌≡◌ {A = ℕ} 0 1 = cc in absurd (omega arith)

  pub passed_plain : (c : Checked) (p : Passed) → Ok p ≡ passed_of entry c → p.is_group ≡ false
      → (c ≡ Plain p.avp) × (p.entry ≡ entry p.avp.vendor p.avp.code)
  passed_plain (Fault v) p e g = let z : ◌≡◌ {A = ℕ} 0 1 = cc in absurd (omega arith)
  passed_plain (Plain b) p e g = (cc, cc)
  passed_plain (Group b) p e g = let z : ◌≡◌ {A = ℕ} 0 1 = cc in absurd (omega arith)

  pub passed_group : (c : Checked) (p : Passed) → Ok p ≡ passed_of entry c → p.is_group ≡ true
      → (c ≡ Group p.avp) × (p.entry ≡ entry p.avp.vendor p.avp.code)
  passed_group (Fault v) p e g = let z : ◌≡◌ {A = ℕ} 0 1 = cc in absurd (omega arith)
  passed_group (Plain b) p e g = let z : ◌≡◌ {A = ℕ} 0 1 = cc in absurd (omega arith)
  passed_group (Group b) p e g = (cc, cc)

-- ---- the fields of an AVP, read from the rest of its list

module _ (s : List ℕ) (at end : ℕ) (order : at ≤ end) (inside : end ≤ length s) where
  -- the rest of the list from the AVP on
  abbrev pub rest_of : List ℕ
  rest_of = take (end - at) (drop at s)

  rest_left : length rest_of ≡ end - at
  rest_left = length-take-le (end - at) (drop at s) (simp length-drop (omega arith))

  rest_number : (w k : ℕ) → k + w ≤ end - at → number_at w rest_of k ≡ number_at w s (at + k)
  rest_number w k h = number_at_part w s at (end - at) k h (omega arith)

  rest_code : 8 ≤ end - at → number_at 4 rest_of 0 ≡ code_at s at
  rest_code h = rest_number 4 0 (omega arith) ∙ ap (number_at 4 s) (add-zero at)

  rest_flags : 8 ≤ end - at → get_or rest_of 4 0 ≡ flags_at s at
  rest_flags h = get_or-take (end - at) (drop at s) 4 0 (omega arith) ∙ get_or-drop at s 4 0

  module _ (depth : ℕ) where
    -- what check 2 hands back, in terms of the list
    abbrev frame_at : Result Avp Verdict
    frame_at = frame_of (framing s at end) (avp_at s at depth)

    pub read_left : length rest_of < 8 → Err (verdict 5014 at 0 0) ≡ frame_at
    read_left h = rw (framing_left s at end (rw rest_left at h))

    module _ (eight : 8 ≤ length rest_of) {code : ℕ} (code_is : code ≡ number_at 4 rest_of 0) where
      left : 8 ≤ end - at
      left = rw rest_left at eight

      pub read_vendor_left : flag_v (get_or rest_of 4 0) ≡ true → length rest_of < 12 → Err (verdict 5014 at 0 code) ≡ frame_at
      read_vendor_left v h =
          rw (code_is, rest_code left, framing_vendor_left s at end left (rw (rest_flags left) at v) (rw rest_left at h))

      module _ {size : ℕ} (size_is : size ≡ number_at 3 rest_of 5) where
        -- both answers by a header of this size, with the length field tested
        abbrev By : ℕ → ℕ → Type 0
        By header vendor =
            (misfit (length rest_of) header size ≡ true → Err (verdict 5014 at vendor code) ≡ frame_at)
            × (misfit (length rest_of) header size ≡ false → Ok (avp_by at depth header vendor code (get_or rest_of 4 0) size) ≡ frame_at)

        read_by : (v : Bool) → flag_v (flags_at s at) ≡ v → header_of v ≤ end - at
            → By (header_of v) (cond v (number_at 4 s (at + 8)) 0)
        read_by v is h =
            let frame = framing_by s at end v is h ∙ refuse_either (ltb (length_at s at) (header_of v)) (ltb (end - at) (padded (length_at s at))) _ in
            rw (code_is, size_is, rest_left, rest_code left, rest_number 3 5 left, rest_flags left, frame, avp_at_by s at depth v is) (
              λ h. rw h,
              λ h. rw h,
            )

        pub read_plain : flag_v (get_or rest_of 4 0) ≡ false → By 8 0
        read_plain v = read_by false (rw (rest_flags left) at v) left

        pub read_vendor : flag_v (get_or rest_of 4 0) ≡ true → 12 ≤ length rest_of → {vendor : ℕ} → vendor ≡ number_at 4 rest_of 8 → By 12 vendor
        read_vendor v h vendor_is =
            let k = rw rest_left at h in
            rw (vendor_is, rest_number 4 8 k) (read_by true (rw (rest_flags left) at v) k)
