-- Items at the same places of two lists of octets: items of the same cells have the same octets outside their padding,
-- and where the octets outside padding are the same, so are the cells, but for their depths.
use mathlib.Core.Path.{◌≡◌, refl, sym, ap, ◌∙◌}
use mathlib.Core.Bool.{false}
use mathlib.Core.List.{List, [], ◌∷◌, ◌++◌, map, append_assoc}
use Prim.Native.Nat.{ℕ, ◌+◌, ◌-◌, ◌≤◌, ◌<◌}
use native.Mathlib.Omega.{arith}
use borrow.Author.Tests.{ltb-true, ltb-false}
use lib.Dec.{ltb}
use lib.ListN.{length, get_or, take, drop, length-append, length-drop}
use lib.Seq.{take_at}
use Rattle.rules.specs.Octets.{padded}
use Rattle.rules.specs.Avp.{flags_at, flag_v, flag_m, flag_p, header_of}
use Rattle.rules.specs.declared.Entry.{Entry}
use Rattle.rules.specs.Meaning.{Cell}
use Rattle.rules.specs.Agreement.{fills_one}
use Rattle.rules.specs.Wire.{has_vendor, avp_header}
use Rattle.rules.proofs.Fields.{header_least}
use Rattle.rules.proofs.Walk.{by_cases}
use Rattle.rules.proofs.demands.items.Items.{Item, cell_in, octets_of, step, avps_at, All, Fit}
use Rattle.rules.proofs.demands.octets.Numbers.{drop-on}
use Rattle.rules.proofs.demands.items.Sequences.{octets_nil, octets_cons, length-header, length-cons, past_item}
use Rattle.rules.proofs.demands.written.Fields.{header_found}
use Rattle.rules.proofs.demands.items.Lists.{not_both, Tight}
use Rattle.rules.proofs.demands.agreement.Depths.{flat, flats}
use Rattle.rules.proofs.demands.agreement.Paddings.{front, padding_front, padding_fill, padding_beyond}
use Rattle.rules.proofs.demands.agreement.Places.{get_d_past, get_d_first, part_same, number_same}

-- items whose cells differ at most in depth have as many octets
pub front_same : (x y : Item) → flat x.cell ≡ flat y.cell → front x ≡ front y
front_same x y e = ap (λ (c : Cell). header_of (has_vendor c) + length c.octets) e

pub step_same : (dict : List Entry) (x y : Item) → Fit dict x → Fit dict y → flat x.cell ≡ flat y.cell
    → step x ≡ step y
step_same dict x y f g e =
    let own = front_same x y e in
    let fill : length x.padding ≡ length y.padding =
    f.padding_is ∙ ap (λ (c : Cell). padded c.length - c.length) e ∙ sym g.padding_is in
    omega arith

module _ (dict : List Entry) where
  -- ---- the same cells

  -- an item's own octets are those of its cell
  pub own_octet : (s tail : List ℕ) (at i : ℕ) (x : Item) → drop at s ≡ avp_header x.cell ++ (x.cell.octets ++ tail)
      → at ≤ i
      → i < at + front x → get_or s i 0 ≡ get_or (avp_header x.cell ++ x.cell.octets) (i - at) 0
  own_octet s tail at i x e h k =
      let l : length (avp_header x.cell ++ x.cell.octets) ≡ front x =
      length-append (avp_header x.cell) x.cell.octets ∙ rw (length-header x.cell) in
      get_d_first s (avp_header x.cell ++ x.cell.octets) tail at i (e ∙ simp append_assoc) h (omega arith)

  pub same_octets : (xs ys : List Item) (a b : List ℕ) (at i : ℕ) → All (Fit dict) xs → All (Fit dict) ys
      → All (Tight dict) xs
      → map cell_in xs ≡ map cell_in ys → drop at a ≡ octets_of xs → drop at b ≡ octets_of ys → at ≤ i
      → fills_one (avps_at at xs) i ≡ false → get_or a i 0 ≡ get_or b i 0
  same_octets [] [] a b at i f g t e ea eb h p =
      get_d_past a (octets_of []) at i ea h ∙ sym (get_d_past b (octets_of []) at i eb h)
  same_octets [] (y ∷ ys) a b at i f g t e ea eb h p = let z : ◌≡◌ {A = ℕ} 0 1 = cc in absurd (omega arith)
  same_octets (x ∷ xs) [] a b at i f g t e ea eb h p = let z : ◌≡◌ {A = ℕ} 0 1 = cc in absurd (omega arith)
  same_octets (x ∷ xs) (y ∷ ys) a b at i f g t e ea eb h p =
      let c : x.cell ≡ y.cell = cc in
      let e' : map cell_in xs ≡ map cell_in ys = cc in
      let da = ea ∙ octets_cons x xs in
      let db = eb ∙ octets_cons y ys in
      let fr = front_same x y (ap flat c) in
      let st : at + step x ≡ at + step y = ap (λ (k : ℕ). at + k) (step_same dict x y f.0 g.0 (ap flat c)) in
      by_cases (ltb i (at + front x))
      (λ k.
      let k' = ltb-true i (at + front x) k in
      own_octet a _ at i x da h k'
      ∙ ap (λ (q : Cell). get_or (avp_header q ++ q.octets) (i - at) 0) c ∙ sym (own_octet b _ at i y db h (omega arith)))
      (λ k. by_cases (ltb i (at + step x))
      (λ m. not_both _ (padding_fill dict x f.0 t.0 xs at i (ltb-false _ _ k) (ltb-true _ _ m)) p)
      (λ m.
      let m' = ltb-false i (at + step x) m in
      same_octets xs ys a b (at + step x) i f.1 g.1 t.1 e' (past_item x a _ at da)
      (ap (λ (j : ℕ). drop j b) st ∙ past_item y b _ at db) m'
      (sym (padding_beyond dict x f.0 t.0 xs at i m') ∙ p)))

  -- ---- the same octets

  -- an item's own octets lie in the list
  pub lies : (at : ℕ) (z : Item) (s tail : List ℕ) → drop at s ≡ avp_header z.cell ++ (z.cell.octets ++ tail)
      → at + front z ≤ length s
  lies at z s tail e =
      let h = header_least (has_vendor z.cell) in
      let l : length s - at ≡ header_of (has_vendor z.cell) + (length z.cell.octets + length tail) =
      sym (length-drop at s) ∙ ap length e ∙ length-append (avp_header z.cell) (z.cell.octets ++ tail)
      ∙ rw (length-header z.cell, length-append) in
      omega arith

  module _ (x y : Item) (fx : Fit dict x) (fy : Fit dict y) (a b ra rb : List ℕ) (at : ℕ)
      (ea : drop at a ≡ avp_header x.cell ++ (x.cell.octets ++ ra))
      (eb : drop at b ≡ avp_header y.cell ++ (y.cell.octets ++ rb))
      (own : (i : ℕ) → at ≤ i → i < at + front x → i < at + front y → get_or a i 0 ≡ get_or b i 0)
    where
      same_flat : flat x.cell ≡ flat y.cell
      same_flat =
          let la = lies at x a ra ea in
          let lb = lies at y b rb eb in
          let hx = header_least (has_vendor x.cell) in
          let hy = header_least (has_vendor y.cell) in
          let p = header_found dict x fx a _ at ea in
          let q = header_found dict y fy b _ at eb in
          let code : x.cell.code ≡ y.cell.code =
          sym p.code_is
          ∙ number_same a b 4 at (omega arith) (omega arith) (λ i h k. own i (omega arith) (omega arith) (omega arith))
          ∙ q.code_is in
          let flags : flags_at a at ≡ flags_at b at = own (at + 4) (omega arith) (omega arith) (omega arith) in
          let v : has_vendor x.cell ≡ has_vendor y.cell = sym p.v_is ∙ ap flag_v flags ∙ q.v_is in
          let m : x.cell.m ≡ y.cell.m = sym p.m_is ∙ ap flag_m flags ∙ q.m_is in
          let pr : x.cell.p ≡ y.cell.p = sym p.p_is ∙ ap flag_p flags ∙ q.p_is in
          let size : header_of (has_vendor x.cell) + x.cell.length
          ≡ header_of (has_vendor y.cell) + y.cell.length =
          sym p.length-is
          ∙ number_same a b 3 (at + 5) (omega arith) (omega arith)
          (λ i h k. own i (omega arith) (omega arith) (omega arith)) ∙ q.length-is in
          let hh : header_of (has_vendor x.cell) ≡ header_of (has_vendor y.cell) = ap header_of v in
          let n : x.cell.length ≡ y.cell.length = omega arith in
          let vendor : x.cell.vendor ≡ y.cell.vendor =
          sym p.vendor_is
          ∙ by_cases (has_vendor x.cell)
          (λ k.
          let h12 : header_of (has_vendor x.cell) ≡ 12 = rw k in
          rw (p.v_is, q.v_is, ← v, k)
          (number_same a b 4 (at + 8) (omega arith) (omega arith)
          (λ i h j. own i (omega arith) (omega arith) (omega arith))))
          (λ k. rw (p.v_is, q.v_is, ← v, k))
          ∙ q.vendor_is in
          let lo : length x.cell.octets ≡ length y.cell.octets =
          fx.data_is ∙ rw (vendor, code, n) (sym fy.data_is) in
          let da = drop-on a (avp_header x.cell) _ at (at + header_of (has_vendor x.cell))
          (rw (length-header x.cell)) ea in
          let db = drop-on b (avp_header y.cell) _ at (at + header_of (has_vendor x.cell))
          (rw (length-header y.cell) (omega arith)) eb in
          let size-x = length x.cell.octets in
          let own-data : x.cell.octets ≡ y.cell.octets =
          sym (ap (take size-x) da ∙ take_at x.cell.octets ra size-x refl)
          ∙ part_same a b size-x (at + header_of (has_vendor x.cell)) (omega arith) (omega arith)
          (λ i h k. own i (omega arith) (omega arith) (omega arith))
          ∙ ap (take size-x) db ∙ take_at y.cell.octets rb size-x (sym lo) in
          rw (vendor, code, m, pr, n, own-data)

  -- the same octets from a place on, where neither has padding
  abbrev pub Alike : List ℕ → List ℕ → ℕ → List Item → List Item → Type 0
  Alike a b at xs ys =
      (i : ℕ) → at ≤ i → i < at + length (octets_of xs) → fills_one (avps_at at xs) i ≡ false
      → fills_one (avps_at at ys) i ≡ false
      → get_or a i 0 ≡ get_or b i 0

  pub same_flats : (xs ys : List Item) (a b : List ℕ) (at : ℕ) → All (Fit dict) xs → All (Fit dict) ys
      → All (Tight dict) xs → All (Tight dict) ys → drop at a ≡ octets_of xs → drop at b ≡ octets_of ys
      → length (octets_of xs) ≡ length (octets_of ys)
      → Alike a b at xs ys → flats (map cell_in xs) ≡ flats (map cell_in ys)
  same_flats [] [] a b at f g t u ea eb l h = refl
  same_flats [] (y ∷ ys) a b at f g t u ea eb l h =
      absurd (omega (arith, ap length octets_nil, length-cons y ys, header_least (has_vendor y.cell)))
  same_flats (x ∷ xs) [] a b at f g t u ea eb l h =
      absurd (omega (arith, ap length octets_nil, length-cons x xs, header_least (has_vendor x.cell)))
  same_flats (x ∷ xs) (y ∷ ys) a b at f g t u ea eb l h =
      let lx = length-cons x xs in
      let ly = length-cons y ys in
      let da = ea ∙ octets_cons x xs in
      let db = eb ∙ octets_cons y ys in
      let own : (i : ℕ) → at ≤ i → i < at + front x → i < at + front y → get_or a i 0 ≡ get_or b i 0 =
      λ i h1 h2 h3. h i h1 (omega arith) (padding_front dict x f.0 t.0 xs at i h2)
      (padding_front dict y g.0 u.0 ys at i h3) in
      let c = same_flat x y f.0 g.0 a b _ _ at da db own in
      let st : at + step x ≡ at + step y = ap (λ (k : ℕ). at + k) (step_same dict x y f.0 g.0 c) in
      let h' : Alike a b (at + step x) xs ys =
      λ i h1 h2 h3 h4. h i (omega arith) (omega arith) (padding_beyond dict x f.0 t.0 xs at i h1 ∙ h3)
      (padding_beyond dict y g.0 u.0 ys at i (omega arith) ∙ ap (λ (j : ℕ). fills_one (avps_at j ys) i) (sym st)
      ∙ h4) in
      let ih = same_flats xs ys a b (at + step x) f.1 g.1 t.1 u.1 (past_item x a _ at da)
      (ap (λ (j : ℕ). drop j b) st ∙ past_item y b _ at db) (omega arith) h' in
      rw (c, ih)
