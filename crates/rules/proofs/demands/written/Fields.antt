-- One item at a place: the reader finds the fields of its cell there, its framing passes, and the AVP is the item's.
use mathlib.Core.Path.{◌≡◌, refl, sym, ap, ◌∙◌}
use Rattle.rules.specs.Verdict.{no_refusal}
use mathlib.Core.Bool.{false, not}
use mathlib.Core.List.{List, [], ◌∷◌, ◌++◌, append_assoc}
use Prim.Native.Nat.{ℕ, ◌+◌, ◌-◌, ◌≤◌}
use native.Mathlib.Nat.{add-zero}
use native.Mathlib.Omega.{arith}
use borrow.Author.Tests.{eqb-true, not-false}
use lib.Dec.{eqb}
use lib.ListN.{drop}
use Rattle.rules.specs.Octets.{padded, octets}
use Rattle.rules.specs.Avp.{code_at, flags_at, flag_v, flag_m, flag_p, length_at, header_of, vendor_at, next_at, avp_at}
use Rattle.rules.specs.declared.Entry.{Entry}
use Rattle.rules.specs.Walk.{framing}
use Rattle.rules.specs.Meaning.{Cell}
use Rattle.rules.specs.Wire.{has_vendor, avp_flags, vendor_octets, avp_header}
use Rattle.rules.proofs.Fields.{header_least, padded_header}
use Rattle.rules.proofs.Walk.{by_cases, framing_pass}
use Rattle.rules.proofs.demands.items.Items.{Item, avp_of, Fit}
use Rattle.rules.proofs.demands.octets.Flags.{flags_by, read_flags}
use Rattle.rules.proofs.demands.octets.Numbers.{length-octets, drop_past, drop-on, octet_at, number_at_lem}

-- V, M and P, and no other
flags_by_lem : (c : Cell) → avp_flags c ≡ flags_by (has_vendor c) c.m c.p false
unfolding avp_flags
flags_by_lem c = sym (add-zero _)

-- a header of four, one, three octets and the vendor's
header_parts : (c : Cell) (rest : List ℕ) → avp_header c ++ rest
    ≡ octets 4 c.code ++ (avp_flags c ∷ (octets 3 (header_of (has_vendor c) + c.length) ++ (vendor_octets c ++ rest)))
unfolding avp_header
header_parts c rest = simp append_assoc

-- what the reader finds where a cell's header stands
pub record HeaderAt (s : List ℕ) (at : ℕ) (c : Cell) : Type 0 where
  pub code_is : code_at s at ≡ c.code
  pub v_is : flag_v (flags_at s at) ≡ has_vendor c
  pub m_is : flag_m (flags_at s at) ≡ c.m
  pub p_is : flag_p (flags_at s at) ≡ c.p
  pub length-is : length_at s at ≡ header_of (has_vendor c) + c.length
  pub vendor_is : vendor_at s at ≡ c.vendor

no_vendor : (n : ℕ) → not (eqb n 0) ≡ false → 0 ≡ n
no_vendor n h = sym (eqb-true n 0 (not-false _ h))

pub header_found : (dict : List Entry) (x : Item) → Fit dict x → (s rest : List ℕ) (at : ℕ)
    → drop at s ≡ avp_header x.cell ++ rest
    → HeaderAt s at x.cell
header_found dict x fit s rest at e =
    let c = x.cell in
    let w = e ∙ header_parts c rest in
    let size = header_of (has_vendor c) + c.length in
    let f : drop (at + 4) s ≡ avp_flags c ∷ (octets 3 size ++ (vendor_octets c ++ rest)) =
    drop_past s (octets 4 c.code) _ at 4 w (length-octets 4 c.code) in
    let g : drop (at + 5) s ≡ octets 3 size ++ (vendor_octets c ++ rest) =
    drop-on s (avp_flags c ∷ []) _ (at + 4) (at + 5) (omega arith) f in
    let h : drop (at + 8) s ≡ vendor_octets c ++ rest =
    drop-on s (octets 3 size) _ (at + 5) (at + 8) (rw (length-octets 3 size) (omega arith)) g in
    let flags : flags_at s at ≡ flags_by (has_vendor c) c.m c.p false =
    octet_at s _ (at + 4) (avp_flags c) f ∙ flags_by_lem c in
    let read = read_flags (has_vendor c) c.m c.p false in
    let v : flag_v (flags_at s at) ≡ has_vendor c = ap flag_v flags ∙ read.first in
    record {
      code_is = number_at_lem 4 s _ at c.code w fit.code_small;
      v_is = v;
      m_is = ap flag_m flags ∙ read.second;
      p_is = ap flag_p flags ∙ read.third;
      length-is = number_at_lem 3 s _ (at + 5) size g fit.length-small;
      vendor_is =
          by_cases (has_vendor c)
          (λ k. rw (v, k) (number_at_lem 4 s rest (at + 8) c.vendor (rw k at h) fit.vendor_small))
          (λ k. rw (v, k) (no_vendor c.vendor k));
    }

-- the AVP there is the item's
pub avp_found : (s : List ℕ) (at : ℕ) (x : Item) → HeaderAt s at x.cell → avp_of at x ≡ avp_at s at x.cell.depth
unfolding avp_at
avp_found s at x f =
    let c = x.cell in
    let l : length_at s at - header_of (flag_v (flags_at s at)) ≡ c.length = rw (f.length-is, f.v_is) (omega arith) in
    rw (l, f.vendor_is, f.code_is, f.m_is, f.p_is, f.v_is)

-- the next AVP stands behind header, data and padding
pub next_found : (s : List ℕ) (at : ℕ) (c : Cell) → HeaderAt s at c
    → next_at s at ≡ at + (header_of (has_vendor c) + padded c.length)
next_found s at c f = rw (f.length-is, padded_header (has_vendor c) c.length)

-- check 2 passes where the list has room
pub framing_found : (s : List ℕ) (at end : ℕ) (c : Cell) → HeaderAt s at c
    → header_of (has_vendor c) + padded c.length ≤ end - at → framing s at end ≡ no_refusal
framing_found s at end c f room =
    let v = flag_v (flags_at s at) in
    let least = header_least (has_vendor c) in
    let header : header_of v ≤ end - at = rw f.v_is (omega arith) in
    let short : header_of v ≤ length_at s at = rw (f.v_is, f.length-is) (omega arith) in
    let fits : padded (length_at s at) ≤ end - at = rw (f.length-is, padded_header (has_vendor c) c.length) room in
    framing_pass s at end v refl header short fits
