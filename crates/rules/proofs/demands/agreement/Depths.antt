-- Depths follow from the rest: cells that make lists at one depth and differ at most in depths are the same.
use mathlib.Core.Path.{◌≡◌, refl, sym, ap, ◌∙◌}
use mathlib.Core.Bool.{true}
use mathlib.Core.List.{List, [], ◌∷◌, ◌++◌, map, map-append}
use Prim.Native.Nat.{ℕ, zero, suc, ◌+◌, ◌≤◌}
use native.Mathlib.Omega.{arith}
use lib.ListN.{length, length-append}
use Rattle.rules.specs.declared.Entry.{Entry}
use Rattle.rules.specs.Meaning.{Cell}
use Rattle.rules.specs.Wire.{has_vendor}
use Rattle.rules.proofs.Fields.{header_least}
use Rattle.rules.proofs.Walk.{by_cases}
use Rattle.rules.proofs.demands.items.Items.{Item, cell_in, octets_of, own_size, Listed}
use Rattle.rules.proofs.demands.items.Trees.{is_group_cell, size_of, size_nil, size_cons}
use Rattle.rules.proofs.demands.items.Lists.{run, tights, size_octets, listed_plain, GroupOf, listed_group}

-- a cell at another depth
abbrev pub placed : ℕ → Cell → Cell
placed depth c = record {
  depth = depth;
  vendor = c.vendor;
  code = c.code;
  m = c.m;
  p = c.p;
  length = c.length;
  octets = c.octets;
}

-- without its depth
abbrev pub flat : Cell → Cell
flat = placed 0

abbrev pub flats : List Cell → List Cell
flats = map flat

pub same_cell : (b c : Cell) → flat b ≡ flat c → b.depth ≡ c.depth → b ≡ c
same_cell b c e d = ap (placed b.depth) e ∙ ap (λ (k : ℕ). placed k c) d

module _ (dict : List Entry) where
  own_flat : (b c : Cell) → flat b ≡ flat c → own_size dict b ≡ own_size dict c
  unfolding own_size
  own_flat b c e = ap (own_size dict) e

  own_least : (c : Cell) → 8 ≤ own_size dict c
  unfolding own_size
  own_least c = omega (arith, header_least (has_vendor c))

  -- lists of the same cells are cut at the same number of octets
  cut_same : (ps qs rs ts : List Cell) → flats (ps ++ rs) ≡ flats (qs ++ ts) → size_of dict ps ≡ size_of dict qs
      → (flats ps ≡ flats qs) × (flats rs ≡ flats ts)
  cut_same [] [] rs ts e l = (refl, e)
  cut_same [] (q ∷ qs) rs ts e l = absurd (omega (arith, size_nil dict, size_cons dict q qs, own_least q))
  cut_same (p ∷ ps) [] rs ts e l = absurd (omega (arith, size_nil dict, size_cons dict p ps, own_least p))
  cut_same (p ∷ ps) (q ∷ qs) rs ts e l =
      let h : flat p ≡ flat q = cc in
      let t : flats (ps ++ rs) ≡ flats (qs ++ ts) = cc in
      let s = cut_same ps qs rs ts t (omega (arith, own_flat p q h, size_cons dict p ps, size_cons dict q qs)) in
      (ap (λ (l : List Cell). flat p ∷ l) s.0 ∙ ap (λ (c : Cell). c ∷ flats qs) h, s.1)

  abbrev Same : ℕ → Type 0
  Same n =
      (d : ℕ) (xs ys : List Item) → length xs ≤ n → Listed dict d xs → Listed dict d ys
      → flats (map cell_in xs) ≡ flats (map cell_in ys) → map cell_in xs ≡ map cell_in ys

  module _ (n : ℕ) (ih : Same n) (d : ℕ) (x y : Item) (h : flat x.cell ≡ flat y.cell)
      (g : is_group_cell dict x.cell ≡ true)
    where
      group_same : (ps rs qs ts : List Item) → length (ps ++ rs) ≤ n
          → flats (map cell_in (ps ++ rs)) ≡ flats (map cell_in (qs ++ ts))
          → (x.cell.depth ≡ d) × GroupOf dict d x ps rs → (y.cell.depth ≡ d) × GroupOf dict d y qs ts
          → map cell_in (x ∷ (ps ++ rs)) ≡ map cell_in (y ∷ (qs ++ ts))
      group_same ps rs qs ts few e a b =
          let l = length-append ps rs in
          let sa : length (octets_of ps) ≡ size_of dict (map cell_in ps) =
          let i = a.1.inner in size_octets dict ps i.fit (tights dict ps i.sizes) in
          let sb : length (octets_of qs) ≡ size_of dict (map cell_in qs) =
          let i = b.1.inner in size_octets dict qs i.fit (tights dict qs i.sizes) in
          let c = cut_same (map cell_in ps) (map cell_in qs) (map cell_in rs) (map cell_in ts)
          (rw (map-append cell_in ps rs, map-append cell_in qs ts) at e)
          (omega (arith, ap (λ (k : Cell). k.length) h, a.1.length-is, b.1.length-is)) in
          rw (
            same_cell x.cell y.cell h (a.0 ∙ sym b.0),
            map-append cell_in ps rs,
            map-append cell_in qs ts,
            ih (d + 1) ps qs (omega arith) a.1.inner b.1.inner c.0,
            ih d rs ts (omega arith) a.1.outer b.1.outer c.1,
          )

      run_same : (xs ys : List Item) → length xs ≤ n → flats (map cell_in xs) ≡ flats (map cell_in ys)
          → Listed dict d (x ∷ xs) → Listed dict d (y ∷ ys) → map cell_in (x ∷ xs) ≡ map cell_in (y ∷ ys)
      run_same xs ys few e a b =
          let u = run d xs in
          let v = run d ys in
          let k : is_group_cell dict y.cell ≡ true = ap (is_group_cell dict) (sym h) ∙ g in
          let r = group_same u.inner u.rest v.inner v.rest (rw u.is at few) (rw (u.is, v.is) at e)
          (listed_group dict d x u.inner u.rest (rw u.is at a) g u.down u.up)
          (listed_group dict d y v.inner v.rest (rw v.is at b) k v.down v.up) in
          ap (λ (l : List Item). map cell_in (x ∷ l)) u.is ∙ r
          ∙ ap (λ (l : List Item). map cell_in (y ∷ l)) (sym v.is)

  same_none : Same zero
  same_none d [] [] few a b e = refl
  same_none d [] (y ∷ ys) few a b e = let z : ◌≡◌ {A = ℕ} 0 1 = cc in absurd (omega arith)
  same_none d (x ∷ xs) ys few a b e = absurd (omega arith)

  same_more : (n : ℕ) → Same n → Same (suc n)
  same_more n ih d [] [] few a b e = refl
  same_more n ih d [] (y ∷ ys) few a b e = let z : ◌≡◌ {A = ℕ} 0 1 = cc in absurd (omega arith)
  same_more n ih d (x ∷ xs) [] few a b e = let z : ◌≡◌ {A = ℕ} 0 1 = cc in absurd (omega arith)
  same_more n ih d (x ∷ xs) (y ∷ ys) few a b e =
      let h : flat x.cell ≡ flat y.cell = cc in
      let t : flats (map cell_in xs) ≡ flats (map cell_in ys) = cc in
      by_cases (is_group_cell dict x.cell)
      (λ g. run_same n ih d x y h g xs ys (omega arith) t a b)
      (λ g.
      let p = listed_plain dict d x xs a g in
      let q = listed_plain dict d y ys b (ap (is_group_cell dict) (sym h) ∙ g) in
      rw (same_cell x.cell y.cell h (p.0 ∙ sym q.0), ih d xs ys (omega arith) p.1 q.1 t))

  same_up_to : (n : ℕ) → Same n
  same_up_to zero = same_none
  same_up_to (suc n) = same_more n (same_up_to n)

  pub same_cells : (d : ℕ) (xs ys : List Item) → Listed dict d xs → Listed dict d ys
      → flats (map cell_in xs) ≡ flats (map cell_in ys) → map cell_in xs ≡ map cell_in ys
  same_cells d xs ys = same_up_to (length xs) d xs ys (omega arith)
