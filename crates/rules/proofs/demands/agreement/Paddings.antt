-- Where the padding of items stands: behind an item's own octets, up to the next item.
use mathlib.Core.Path.{◌≡◌, refl, ap, ◌∙◌}
use mathlib.Core.Bool.{Bool, true, false, ◌&&◌, ◌||◌}
use mathlib.Core.List.{List, [], ◌∷◌}
use Prim.Native.Nat.{ℕ, ◌+◌, ◌-◌, ◌≤◌, ◌<◌}
use native.Mathlib.Omega.{arith}
use borrow.Author.Tests.{lt-leb, le-leb, lt-ltb, le-ltb, leb-true}
use lib.Dec.{leb, ltb, eqb}
use lib.ListN.{length}
use Rattle.rules.specs.Octets.{padded}
use Rattle.rules.specs.Avp.{header_of, place_of, end_of}
use Rattle.rules.specs.declared.Entry.{Entry}
use Rattle.rules.specs.Agreement.{avp_length, filled_end, fills_one}
use Rattle.rules.specs.Wire.{has_vendor}
use Rattle.rules.proofs.Octets.{padded_least}
use Rattle.rules.proofs.Walk.{by_cases}
use Rattle.rules.proofs.Fields.{padded_header}
use Rattle.rules.proofs.demands.items.Items.{Item, step, avp_of, avps_at, Fit}
use Rattle.rules.proofs.demands.items.Trees.{is_group_cell}
use Rattle.rules.proofs.demands.items.Lists.{Tight}

-- the first octet of an item's AVP is where the item stands
place_is : (at : ℕ) (x : Item) → place_of (avp_of at x) ≡ at
place_is at x =
    by_cases (eqb x.cell.vendor 0) (λ h. rw h (omega arith)) (λ h. rw h (omega arith))

-- its length is filled where its data is padded
filled_end_lem : (at : ℕ) (x : Item)
    → filled_end (avp_of at x) ≡ at + (header_of (has_vendor x.cell) + padded x.cell.length)
filled_end_lem at x =
    let p = place_is at x in
    let e : avp_length (avp_of at x) ≡ header_of (has_vendor x.cell) + x.cell.length = rw p (omega arith) in
    let q : padded (avp_length (avp_of at x)) ≡ header_of (has_vendor x.cell) + padded x.cell.length =
    ap padded e ∙ padded_header (has_vendor x.cell) x.cell.length in
    omega arith

-- an item's octets without its padding
abbrev pub front : Item → ℕ
front x = header_of (has_vendor x.cell) + length x.cell.octets

abbrev is_fill : ℕ → Item → ℕ → Bool
is_fill at x i =
    leb (at + header_of (has_vendor x.cell) + x.cell.length) i
    && ltb i (at + (header_of (has_vendor x.cell) + padded x.cell.length))

padding_nil : (at i : ℕ) → fills_one (avps_at at []) i ≡ false
unfolding fills_one avps_at
padding_nil at i = refl

padding_cons : (at : ℕ) (x : Item) (xs : List Item) (i : ℕ)
    → fills_one (avps_at at (x ∷ xs)) i ≡ (is_fill at x i || fills_one (avps_at (at + step x) xs) i)
unfolding fills_one avps_at
padding_cons at x xs i =
    ap (λ (n : ℕ). leb (end_of (avp_of at x)) i && ltb i n || fills_one (avps_at (at + step x) xs) i) (filled_end_lem at x)

-- within an item's header and data, where the items behind have no padding
before_padding : (at : ℕ) (x : Item) (xs : List Item) (i : ℕ) → i < at + header_of (has_vendor x.cell) + x.cell.length
    → fills_one (avps_at (at + step x) xs) i ≡ false → fills_one (avps_at at (x ∷ xs)) i ≡ false
before_padding at x xs i h r = padding_cons at x xs i ∙ simp (lt-leb _ _ h, r)

pub padding_below : (xs : List Item) (at i : ℕ) → i < at → fills_one (avps_at at xs) i ≡ false
padding_below [] at i h = padding_nil at i
padding_below (x ∷ xs) at i h =
    before_padding at x xs i (omega arith) (padding_below xs (at + step x) i (omega arith))

module _ (dict : List Entry) (x : Item) (fit : Fit dict x) (tight : Tight dict x) (xs : List Item) (at i : ℕ) where
  -- an item that is a read group, and one that is not
  parts : {C : Type 0}
      → (length x.cell.octets ≡ 0 → padded x.cell.length ≡ x.cell.length → length x.padding ≡ 0 → C)
      → (length x.cell.octets ≡ x.cell.length
      → length x.padding ≡ padded x.cell.length - x.cell.length → C)
      → C
  parts f g =
      let q = fit.padding_is in
      by_cases (is_group_cell dict x.cell)
      (λ h. let t = tight h in f (fit.data_is ∙ rw h) t (omega arith))
      (λ h. g (fit.data_is ∙ rw h) q)

  pub padding_front : i < at + front x → fills_one (avps_at at (x ∷ xs)) i ≡ false
  padding_front h =
      let l = padded_least x.cell.length in
      let b : front x ≤ header_of (has_vendor x.cell) + x.cell.length =
      parts (λ d t p. omega arith) (λ d p. omega arith) in
      before_padding at x xs i (omega arith) (padding_below xs (at + step x) i (omega arith))

  pub padding_fill : at + front x ≤ i → i < at + step x → fills_one (avps_at at (x ∷ xs)) i ≡ true
  padding_fill h k =
      let l = padded_least x.cell.length in
      let a : at + header_of (has_vendor x.cell) + x.cell.length ≤ i =
      parts (λ d t p. omega arith) (λ d p. omega arith) in
      let b : i < at + (header_of (has_vendor x.cell) + padded x.cell.length) =
      parts (λ d t p. omega arith) (λ d p. omega arith) in
      padding_cons at x xs i ∙ simp (le-leb _ _ a, lt-ltb _ _ b)

  pub padding_beyond : at + step x ≤ i → fills_one (avps_at at (x ∷ xs)) i ≡ fills_one (avps_at (at + step x) xs) i
  padding_beyond h =
      let l = padded_least x.cell.length in
      padding_cons at x xs i
      ∙ by_cases (leb (at + header_of (has_vendor x.cell) + x.cell.length) i)
      (λ k.
      let k' : at + header_of (has_vendor x.cell) + x.cell.length ≤ i = leb-true _ _ k in
      let b : at + (header_of (has_vendor x.cell) + padded x.cell.length) ≤ i =
      parts (λ d t p. omega arith) (λ d p. omega arith) in
      simp (k, le-ltb _ _ b))
      (λ k. simp k)
