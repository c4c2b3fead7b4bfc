-- Laws of the writer's tests on cells in walk order (01, The record and the writer): the depths form a tree, and a read
-- group's length is that of its members. They say what the tests mean for the front and the tail of a list of cells.
use mathlib.Core.Path.{◌≡◌, refl, sym, ◌∙◌}
use mathlib.Core.Bool.{Bool, true, false, cond, ◌&&◌}
use mathlib.Core.List.{List, [], ◌∷◌, ◌++◌}
use Prim.Native.Nat.{ℕ, ◌+◌, ◌-◌, ◌*◌, ◌/◌, ◌≤◌, ◌<◌}
use native.Mathlib.Nat.{zero-add}
use native.Mathlib.Omega.{arith}
use borrow.Author.Tests.{lt-ltb, le-ltb, le-leb, eq-eqb, leb-true, eqb-true, ltb-true, ltb-false}
use lib.Dec.{ltb, leb, eqb}
use Rattle.rules.specs.Octets.{padded}
use Rattle.rules.specs.Avp.{header_of}
use Rattle.rules.specs.declared.Entry.{Entry}
use Rattle.rules.specs.Walk.{deepest}
use Rattle.rules.specs.Meaning.{Cell, is_read_group}
use Rattle.rules.specs.Wire.{has_vendor}
use Rattle.rules.specs.Draft.{next_depth, is_tree}
use Rattle.rules.proofs.Octets.{padded_rule, padded_least, padded_multiple}
use Rattle.rules.proofs.Tests.{and_true}
use Rattle.rules.proofs.Walk.{by_cases}
use Rattle.rules.proofs.demands.items.Items.{own_size, size_under, has_sizes_under, Over}

-- each cell is deeper than a depth
abbrev pub Deep : ℕ → List Cell → Type 0
Deep depth [] = Unit {0}
Deep depth (c ∷ cs) = (depth < c.depth) × Deep depth cs

-- what comes first is no deeper than a depth
abbrev pub Shallow : ℕ → List Cell → Type 0
Shallow depth [] = Unit {0}
Shallow depth (c ∷ cs) = c.depth ≤ depth

pub shallow_more : (d e : ℕ) (cs : List Cell) → d ≤ e → Shallow d cs → Shallow e cs
shallow_more d e [] h s = tt
shallow_more d e (c ∷ cs) h s = omega arith

pub deep_over : (d : ℕ) (cs : List Cell) → Deep d cs → Over (d + 1) cs
deep_over d [] x = tt
deep_over d (c ∷ cs) x = (omega (arith, x.0), deep_over d cs x.1)

pub over_deep : (d : ℕ) (cs : List Cell) → Over (d + 1) cs → Deep d cs
over_deep d [] x = tt
over_deep d (c ∷ cs) x = (omega (arith, x.0), over_deep d cs x.1)

pub over_less : (d e : ℕ) (cs : List Cell) → e ≤ d → Over d cs → Over e cs
over_less d e [] h x = tt
over_less d e (c ∷ cs) h x = (omega (arith, x.0), over_less d e cs h x.1)

pub over-append : (d : ℕ) (xs ys : List Cell) → Over d xs → Over d ys → Over d (xs ++ ys)
over-append d [] ys x y = y
over-append d (c ∷ xs) ys x y = (x.0, over-append d xs ys x.1 y)

pub over_right : (d : ℕ) (xs ys : List Cell) → Over d (xs ++ ys) → Over d ys
over_right d [] ys o = o
over_right d (x ∷ xs) ys o = over_right d xs ys o.1

-- an AVP's header has a multiple of four octets
header_words : (v : Bool) → (k : ℕ) × (header_of v ≡ k * 4)
header_words true = (3, refl)
header_words false = (2, refl)

module _ (dict : List Entry) where
  abbrev pub is_group_cell : Cell → Bool
  is_group_cell c = is_read_group dict c.vendor c.code

  -- ---- depths

  -- what the test of depths says of a first cell
  pub record Stands (most : ℕ) (c : Cell) (cs : List Cell) : Type 0 where
    pub least : 1 ≤ c.depth
    pub most_is : c.depth ≤ most
    pub cap : c.depth ≤ deepest
    pub rest : is_tree (next_depth dict c) dict cs ≡ true

  -- none has depth 0
  tree_zero : (most : ℕ) (c : Cell) (cs : List Cell) → c.depth ≡ 0 → is_tree most dict (c ∷ cs) ≡ false
  unfolding is_tree
  tree_zero most c cs e = rw e

  pub stands : (most : ℕ) (c : Cell) (cs : List Cell) → is_tree most dict (c ∷ cs) ≡ true → Stands most c cs
  unfolding is_tree
  stands most c cs h =
      let rest = is_tree (next_depth dict c) dict cs in
      let a = and_true (leb 1 c.depth && leb c.depth most && leb c.depth deepest) rest h in
      let b = and_true (leb 1 c.depth && leb c.depth most) (leb c.depth deepest) a.0 in
      let e = and_true (leb 1 c.depth) (leb c.depth most) b.0 in
      let least : 1 ≤ c.depth =
      by_cases (ltb 0 c.depth)
      (λ k. ltb-true 0 c.depth k)
      (λ k.
      let n : c.depth ≡ 0 = omega (arith, ltb-false 0 c.depth k) in
      let z : ◌≡◌ {A = Bool} true false = sym h ∙ tree_zero most c cs n in
      let y : ◌≡◌ {A = ℕ} 0 1 = cc in
      absurd (omega arith)) in
      record { least = least; most_is = leb-true _ _ e.1; cap = leb-true _ _ b.1; rest = a.1 }

  pub tree_of : (most : ℕ) (c : Cell) (cs : List Cell) → Stands most c cs → is_tree most dict (c ∷ cs) ≡ true
  unfolding is_tree
  tree_of most c cs s = simp (le-leb _ _ s.least, le-leb _ _ s.most_is, le-leb _ _ s.cap, s.rest)

  pub tree_nil : (most : ℕ) → is_tree most dict [] ≡ true
  unfolding is_tree
  tree_nil most = refl

  tree_more : (d most : ℕ) (cs : List Cell) → d ≤ most → is_tree d dict cs ≡ true → is_tree most dict cs ≡ true
  tree_more d most [] h n = tree_nil most
  tree_more d most (c ∷ cs) h n =
      let s = stands d c cs n in
      tree_of most c cs (record { least = s.least; most_is = omega (arith, s.most_is); cap = s.cap; rest = s.rest })

  -- deep cells before another tail
  pub tree_tail : (ms zs zs' : List Cell) (most d : ℕ) → Deep d ms → d ≤ most → is_tree most dict (ms ++ zs) ≡ true
      → is_tree d dict zs' ≡ true → is_tree most dict (ms ++ zs') ≡ true
  tree_tail [] zs zs' most d x h n n' = tree_more d most zs' h n'
  tree_tail (c ∷ ms) zs zs' most d x h n n' =
      let s = stands most c (ms ++ zs) n in
      let b : d ≤ next_depth dict c =
      by_cases (is_group_cell c) (λ g. rw g (omega (arith, x.0))) (λ g. rw g (omega (arith, x.0))) in
      tree_of most c (ms ++ zs') (record {
        least = s.least;
        most_is = s.most_is;
        cap = s.cap;
        rest = tree_tail ms zs zs' _ d x.1 b s.rest n';
      })

  pub tree_right : (ms zs : List Cell) (most d : ℕ) → Shallow d zs → is_tree most dict (ms ++ zs) ≡ true
      → is_tree d dict zs ≡ true
  tree_right [] [] most d s n = tree_nil d
  tree_right [] (c ∷ cs) most d s n =
      let t = stands most c cs n in
      tree_of d c cs (record { least = t.least; most_is = s; cap = t.cap; rest = t.rest })
  tree_right (c ∷ ms) zs most d s n = tree_right ms zs _ d s (stands most c (ms ++ zs) n).rest

  -- none has depth 0
  pub tree_over : (cs : List Cell) (most : ℕ) → is_tree most dict cs ≡ true → Over 1 cs
  tree_over [] most n = tt
  tree_over (c ∷ cs) most n = let s = stands most c cs n in (s.least, tree_over cs _ s.rest)

  -- ---- lengths

  -- what the test of lengths says of a first cell
  pub record Sized (c : Cell) (cs : List Cell) : Type 0 where
    pub one : is_group_cell c ≡ true → c.length ≡ size_under c.depth dict cs
    pub rest : has_sizes_under dict cs ≡ true

  pub sized : (c : Cell) (cs : List Cell) → has_sizes_under dict (c ∷ cs) ≡ true → Sized c cs
  unfolding has_sizes_under
  sized c cs h =
      let a =
      and_true (cond (is_group_cell c) (eqb c.length (size_under c.depth dict cs)) true) (has_sizes_under dict cs) h in
      record { one = λ g. eqb-true _ _ (rw g at a.0); rest = a.1 }

  pub sizes_of : (c : Cell) (cs : List Cell) → Sized c cs → has_sizes_under dict (c ∷ cs) ≡ true
  unfolding has_sizes_under
  sizes_of c cs s = by_cases (is_group_cell c) (λ g. simp (g, eq-eqb _ _ (s.one g), s.rest)) (λ g. simp (g, s.rest))

  pub sizes_nil : has_sizes_under dict [] ≡ true
  unfolding has_sizes_under
  sizes_nil = refl

  -- an AVP with as much data and padding as its length says has its own size; a read group needs no padding
  pub own_is : (c : Cell) (size padding : ℕ) → size ≡ cond (is_group_cell c) 0 c.length
      → padding ≡ padded c.length - c.length → (is_group_cell c ≡ true → padded c.length ≡ c.length)
      → header_of (has_vendor c) + (size + padding) ≡ own_size dict c
  unfolding own_size
  own_is c size padding d q t =
      let l = padded_least c.length in
      by_cases (is_group_cell c)
      (λ g. let e : size ≡ 0 = d ∙ rw g in let p = t g in rw g (omega arith))
      (λ g. let e : size ≡ c.length = d ∙ rw g in rw g (omega arith))

  -- the octets of cells
  unfoldable pub size_of : List Cell → ℕ
  size_of [] = 0
  size_of (c ∷ cs) = own_size dict c + size_of cs

  pub size_nil : size_of [] ≡ 0
  unfolding size_of
  size_nil = refl

  pub size_cons : (c : Cell) (cs : List Cell) → size_of (c ∷ cs) ≡ own_size dict c + size_of cs
  unfolding size_of
  size_cons c cs = refl

  pub under_shallow : (d : ℕ) (cs : List Cell) → Shallow d cs → size_under d dict cs ≡ 0
  unfolding size_under
  under_shallow d [] s = refl
  under_shallow d (c ∷ cs) s = simp (le-ltb d c.depth s)

  pub under_deep : (ms zs : List Cell) (d : ℕ) → Deep d ms
      → size_under d dict (ms ++ zs) ≡ size_of ms + size_under d dict zs
  unfolding size_under size_of
  under_deep [] zs d x = sym (zero-add _)
  under_deep (c ∷ ms) zs d x = let ih = under_deep ms zs d x.1 in simp (lt-ltb d c.depth x.0) (omega arith)

  pub under_all : (cs : List Cell) → Deep 0 cs → size_under 0 dict cs ≡ size_of cs
  unfolding size_under size_of
  under_all [] x = refl
  under_all (c ∷ cs) x = rw (lt-ltb 0 c.depth x.0, under_all cs x.1)

  pub under_most : (d : ℕ) (cs : List Cell) → size_under d dict cs ≤ size_of cs
  unfolding size_under size_of
  under_most d [] = omega arith
  under_most d (c ∷ cs) =
      let ih = under_most d cs in
      by_cases (ltb d c.depth) (λ h. rw h (omega arith)) (λ h. rw h (omega arith))

  under_tail : (ms zs zs' : List Cell) (d : ℕ) → size_under d dict zs ≡ size_under d dict zs'
      → size_under d dict (ms ++ zs) ≡ size_under d dict (ms ++ zs')
  unfolding size_under
  under_tail [] zs zs' d h = h
  under_tail (c ∷ ms) zs zs' d h = rw (under_tail ms zs zs' d h)

  pub sizes_right : (ms zs : List Cell) → has_sizes_under dict (ms ++ zs) ≡ true → has_sizes_under dict zs ≡ true
  sizes_right [] zs s = s
  sizes_right (c ∷ ms) zs s = sizes_right ms zs (sized c (ms ++ zs) s).rest

  -- deep cells before another tail
  pub sizes_tail : (ms zs zs' : List Cell) (d : ℕ) → Over d ms → Shallow d zs → Shallow d zs'
      → has_sizes_under dict (ms ++ zs) ≡ true
      → has_sizes_under dict zs' ≡ true → has_sizes_under dict (ms ++ zs') ≡ true
  sizes_tail [] zs zs' d x s s' z z' = z'
  sizes_tail (c ∷ ms) zs zs' d x s s' z z' =
      let w = sized c (ms ++ zs) z in
      let i : size_under c.depth dict zs ≡ size_under c.depth dict zs' =
      under_shallow c.depth zs (shallow_more d c.depth zs x.0 s)
      ∙ sym (under_shallow c.depth zs' (shallow_more d c.depth zs' x.0 s')) in
      let i' = under_tail ms zs zs' c.depth i in
      sizes_of c (ms ++ zs')
      (record { one = λ g. w.one g ∙ i'; rest = sizes_tail ms zs zs' d x.1 s s' w.rest z' })

  -- ---- multiples of four

  -- the octets of an AVP with its padding, as its header's
  own_words : (c : Cell) → (k : ℕ) × (own_size dict c ≡ k * 4)
  unfolding own_size
  own_words c =
      let h = header_words (has_vendor c) in
      by_cases (is_group_cell c)
      (λ g. (h.0, rw g (omega (arith, h.1))))
      (λ g. (h.0 + padded c.length / 4, rw g (omega (arith, h.1, (padded_rule c.length).multiple))))

  under_words : (d : ℕ) (cs : List Cell) → (k : ℕ) × (size_under d dict cs ≡ k * 4)
  unfolding size_under
  under_words d [] = (0, refl)
  under_words d (c ∷ cs) =
      let p = under_words d cs in
      let o = own_words c in
      by_cases (ltb d c.depth) (λ h. (o.0 + p.0, rw h (omega (arith, p.1, o.1)))) (λ h. (0, rw h))

  -- a read group needs no padding
  pub even_of : (c : Cell) (cs : List Cell) → Sized c cs → is_group_cell c ≡ true → padded c.length ≡ c.length
  even_of c cs s g = let p = under_words c.depth cs in padded_multiple c.length p.0 (s.one g ∙ p.1)

  pub size_words : (cs : List Cell) → (k : ℕ) × (size_of cs ≡ k * 4)
  unfolding size_of
  size_words [] = (0, refl)
  size_words (c ∷ cs) = let p = size_words cs in let o = own_words c in (o.0 + p.0, omega (arith, p.1, o.1))
