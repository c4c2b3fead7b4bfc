-- One AVP that passed its checks: its octets are the header that the writer gives to its cell, data and padding.
use mathlib.Core.Path.{◌≡◌, refl, sym, ap, ◌∙◌}
use Rattle.rules.specs.Verdict.{no_refusal}
use mathlib.Core.Bool.{true, false, cond, ◌&&◌}
use mathlib.Core.List.{List, [], ◌∷◌, ◌++◌, append_assoc}
use Prim.Native.Nat.{ℕ, ◌+◌, ◌-◌, ◌*◌, ◌/◌, ◌%◌, ◌^◌, ◌≤◌, ◌<◌}
use native.Mathlib.Nat.{div-div-eq-div-mul}
use native.Mathlib.Omega.{arith}
use borrow.Author.Tests.{eqb-true, eqb-false}
use lib.Dec.{eqb, lit<}
use lib.ListN.{length, take, drop, length-drop}
use lib.Seq.{length-take-le}
use Rattle.rules.specs.Octets.{AreOctets, number_at, flag, padded, octets}
use Rattle.rules.specs.Avp.{code_at, flags_at, flag_v, flag_m, flag_p, length_at, header_of, vendor_at, next_at, avp_at}
use Rattle.rules.specs.declared.Entry.{Entry}
use Rattle.rules.specs.Dictionary.{defined}
use Rattle.rules.specs.Walk.{framing, contents}
use Rattle.rules.specs.Meaning.{Cell, is_read_group, cell_of}
use Rattle.rules.specs.Wire.{has_vendor, avp_flags, vendor_octets, avp_header}
use Rattle.rules.proofs.Octets.{padded_least}
use Rattle.rules.proofs.Fields.{header_least, padded_header}
use Rattle.rules.proofs.Walk.{by_cases}
use Rattle.rules.proofs.Passed.{framed, passed, right_flags}
use Rattle.rules.proofs.demands.octets.Digits.{cut, number_first, octet_first, number_at_below}
use Rattle.rules.proofs.demands.items.Items.{Item, step, avp_of, Fit}

-- ---- the flags octet

pub flag_value : (value octet : ℕ) → cond (flag value octet) value 0 ≡ octet / value % 2 * value
flag_value value octet =
    by_cases (flag value octet)
    (λ h. let e = eqb-true (octet / value % 2) 1 h in rw (h, e) (omega arith))
    (λ h.
    let n = eqb-false (octet / value % 2) 1 h in
    let e : octet / value % 2 ≡ 0 = omega arith in
    rw (h, e) (omega arith))

flags-sum : (flags : ℕ) → flags < 256 → flags % 32 ≡ 0
    → cond (flag_v flags) 128 0 + cond (flag_m flags) 64 0 + cond (flag_p flags) 32 0 ≡ flags
flags-sum flags small low =
    let x = flags / 32 in
    let a : flags / 64 ≡ x / 2 = sym (div-div-eq-div-mul flags 32 2) in
    let b : flags / 128 ≡ x / 2 / 2 = sym (div-div-eq-div-mul flags 64 2) ∙ ap (λ (n : ℕ). n / 2) a in
    rw (flag_value 128 flags, flag_value 64 flags, flag_value 32 flags, a, b) (omega arith)

-- ---- the cell at a place, and its header

-- the octets of the header at a place
abbrev pub header_at : List ℕ → ℕ → ℕ
header_at s at = header_of (flag_v (flags_at s at))

-- the cell of the AVP at a place
abbrev pub cell_at : List Entry → List ℕ → ℕ → ℕ → Cell
cell_at dict s at depth = record {
  depth = depth;
  vendor = vendor_at s at;
  code = code_at s at;
  m = flag_m (flags_at s at);
  p = flag_p (flags_at s at);
  length = length_at s at - header_at s at;
  octets = cond (is_read_group dict (vendor_at s at) (code_at s at)) []
      (take (length_at s at - header_at s at) (drop (at + header_at s at) s));
}

-- its padding
abbrev pub padding_at : List ℕ → ℕ → List ℕ
padding_at s at = take (padded (length_at s at) - length_at s at) (drop (at + length_at s at) s)

-- the item there: of a read group the header alone
abbrev pub group_at : List Entry → List ℕ → ℕ → ℕ → Item
group_at dict s at depth = record { cell = cell_at dict s at depth; padding = [] }

abbrev pub plain_at : List Entry → List ℕ → ℕ → ℕ → Item
plain_at dict s at depth = record { cell = cell_at dict s at depth; padding = padding_at s at }

pub cell_at_is : (dict : List Entry) (s : List ℕ) (at depth : ℕ)
    → cell_of dict s (avp_at s at depth) ≡ cell_at dict s at depth
unfolding avp_at
cell_at_is dict s at depth = refl

-- an AVP that passes its checks, in a list that lies in octets
pub record Passing (dict : List Entry) (s : List ℕ) (at end depth : ℕ) : Type 0 where
  pub octets : AreOctets s
  pub inside : end ≤ length s
  pub frame : framing s at end ≡ no_refusal
  pub pass : contents s at (avp_at s at depth) (defined dict (avp_at s at depth)) ≡ no_refusal

module _ {dict : List Entry} {s : List ℕ} {at end depth : ℕ} (p : Passing dict s at end depth) where
  right : (flags_at s at % 32 ≡ 0) × ((flag_v (flags_at s at) && eqb (vendor_at s at) 0) ≡ false)
  unfolding avp_at
  right =
      right_flags (flags_at s at) (avp_at s at depth) (defined dict (avp_at s at depth))
      (passed s at (avp_at s at depth) (defined dict (avp_at s at depth)) p.pass).flags

  pub vendor_is : has_vendor (cell_at dict s at depth) ≡ flag_v (flags_at s at)
  vendor_is =
      by_cases (flag_v (flags_at s at))
      (λ v.
      let e : eqb (number_at 4 s (at + 8)) 0 ≡ false = rw v at right.1 in
      rw (v, e))
      (λ v. rw v)

  pub flags_are : avp_flags (cell_at dict s at depth) ≡ flags_at s at
  unfolding avp_flags
  flags_are = rw vendor_is (flags-sum (flags_at s at) (p.octets (at + 4)) right.0)

  -- the header is as long as V says
  pub header_fits : at + header_at s at ≤ length s
  header_fits = omega (arith, p.inside, framed s at end p.frame)

  vendor_octets_lem : drop (at + 8) s ≡ vendor_octets (cell_at dict s at depth) ++ drop (at + header_at s at) s
  vendor_octets_lem =
      by_cases (flag_v (flags_at s at))
      (λ v.
      let h : at + 12 ≤ length s = rw v at header_fits in
      rw (vendor_is, v) (number_first 4 s (at + 8) (at + 12) p.octets (omega arith) (omega arith)))
      (λ v. rw (vendor_is, v))

  pub length_whole : header_of (has_vendor (cell_at dict s at depth)) + (cell_at dict s at depth).length ≡ length_at s at
  length_whole = let h = (framed s at end p.frame).header in rw vendor_is (omega arith)

  -- the header's octets are those that the writer gives to the cell
  pub header_octets : drop at s ≡ avp_header (cell_at dict s at depth) ++ drop (at + header_at s at) s
  unfolding avp_header
  header_octets =
      let h = header_fits in
      let l = header_least (flag_v (flags_at s at)) in
      let c = cell_at dict s at depth in
      number_first 4 s at (at + 4) p.octets (omega arith) refl
      ∙ ap (λ (x : List ℕ). octets 4 (code_at s at) ++ x)
      (octet_first s (at + 4) (at + 5) (omega arith) (omega arith)
      ∙ ap (λ (x : List ℕ). flags_at s at ∷ x)
      (number_first 3 s (at + 5) (at + 8) p.octets (omega arith) (omega arith)
      ∙ ap (λ (x : List ℕ). octets 3 (length_at s at) ++ x) vendor_octets_lem))
      ∙ rw (flags_are, length_whole) (simp append_assoc)

  -- ---- the item: its AVP, its numbers, its octets

  pub avp_is : (padding : List ℕ)
      → avp_of at (record { cell = cell_at dict s at depth; padding = padding }) ≡ avp_at s at depth
  unfolding avp_at
  avp_is padding = rw vendor_is

  four_octets : (place : ℕ) → place + 4 ≤ length s → number_at 4 s place < 2 ^ 32
  four_octets place h = number_at_below 4 s place p.octets h

  vendor_small : vendor_at s at < 2 ^ 32
  vendor_small =
      by_cases (flag_v (flags_at s at))
      (λ v. let h : at + 12 ≤ length s = rw v at header_fits in rw v (four_octets (at + 8) (omega arith)))
      (λ v. rw v (lit< tt))

  fit : (padding : List ℕ)
      → length (cell_at dict s at depth).octets
      ≡ cond (is_read_group dict (vendor_at s at) (code_at s at)) 0 (cell_at dict s at depth).length
      → length padding ≡ padded (cell_at dict s at depth).length - (cell_at dict s at depth).length
      → Fit dict (record { cell = cell_at dict s at depth; padding = padding })
  fit padding own fill =
      let h = header_fits in
      let l = header_least (flag_v (flags_at s at)) in
      record {
        vendor_small = vendor_small;
        code_small = four_octets at (omega arith);
        length-small = rw length_whole (number_at_below 3 s (at + 5) p.octets (omega arith));
        data_is = own;
        padding_is = fill;
      }

  -- with padding, header and data
  padded_whole : padded (length_at s at)
      ≡ header_of (has_vendor (cell_at dict s at depth)) + padded (cell_at dict s at depth).length
  padded_whole =
      sym (ap padded length_whole) ∙ padded_header (has_vendor (cell_at dict s at depth)) (cell_at dict s at depth).length

  -- a read group whose length is a multiple of four
  module _ (group : is_read_group dict (vendor_at s at) (code_at s at) ≡ true)
      (even : padded (cell_at dict s at depth).length ≡ (cell_at dict s at depth).length)
    where
      pub group_fit : Fit dict (group_at dict s at depth)
      group_fit = fit [] (rw group) (omega arith)

      pub group_none : (cell_at dict s at depth).octets ≡ []
      group_none = rw group

      pub group_step : step (group_at dict s at depth) ≡ header_at s at
      group_step = rw (group_none, vendor_is) (omega arith)

      pub group_next : next_at s at ≡ at + length_at s at
      group_next = let w = length_whole in let q = padded_whole in omega arith

  -- any other AVP: header, data, padding
  module _ (plain : is_read_group dict (vendor_at s at) (code_at s at) ≡ false) where
    pub plain_fit : Fit dict (plain_at dict s at depth)
    plain_fit =
        let inside = p.inside in
        let f = framed s at end p.frame in
        let w = length_whole in
        let whole = padded_whole in
        let size = length_at s at in
        let q : length (padding_at s at) ≡ padded size - size =
        length-take-le (padded size - size) (drop (at + size) s) (rw length-drop (omega (arith, f))) in
        fit (padding_at s at) (rw plain (length-take-le _ _ (rw length-drop (omega (arith, f))))) (omega arith)

    pub plain_step : step (plain_at dict s at depth) ≡ padded (length_at s at)
    plain_step =
        let own : length (cell_at dict s at depth).octets ≡ (cell_at dict s at depth).length =
        plain_fit.data_is ∙ rw plain in
        let fill = plain_fit.padding_is in
        let least = padded_least (cell_at dict s at depth).length in
        let whole = padded_whole in
        omega arith

    pub plain_octets : drop at s
        ≡ avp_header (cell_at dict s at depth)
        ++ ((cell_at dict s at depth).octets ++ (padding_at s at ++ drop (next_at s at) s))
    plain_octets =
        let f = framed s at end p.frame in
        let header = header_at s at in
        let size = length_at s at in
        header_octets
        ∙ ap (λ (x : List ℕ). avp_header (cell_at dict s at depth) ++ x)
        (cut s (at + header) (size - header) (at + size) (omega (arith, f))
        ∙ ap (λ (x : List ℕ). take (size - header) (drop (at + header) s) ++ x)
        (cut s (at + size) (padded size - size) (at + padded size) (omega (arith, f))))
        ∙ rw plain
