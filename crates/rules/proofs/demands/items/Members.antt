-- Lengths of read groups over their direct members, as the writer's test has them, and over all AVPs under them: in a
-- tree the two tests are the same.
use mathlib.Core.Path.{◌≡◌, refl, ap, ◌∙◌}
use mathlib.Core.Bool.{true, and-false}
use mathlib.Core.List.{List, [], ◌∷◌}
use Prim.Native.Nat.{ℕ, ◌+◌}
use native.Mathlib.Omega.{arith}
use borrow.Author.Tests.{lt-ltb, le-ltb, ltb-true, ltb-false, eqb-true, eqb-false}
use lib.Dec.{ltb, eqb}
use Rattle.rules.specs.declared.Entry.{Entry}
use Rattle.rules.specs.Meaning.{Cell}
use Rattle.rules.specs.Draft.{is_tree, full_size, members_size, has_sizes}
use Rattle.rules.proofs.Walk.{by_cases}
use Rattle.rules.proofs.demands.items.Items.{own_size, size_under, has_sizes_under}
use Rattle.rules.proofs.demands.items.Trees.{Shallow, is_group_cell, Stands, stands, Sized, sized, under_shallow, even_of}

module _ (dict : List Entry) where
  tree_shallow : (d : ℕ) (cs : List Cell) → is_tree d dict cs ≡ true → Shallow d cs
  tree_shallow d [] n = tt
  tree_shallow d (c ∷ cs) n = (stands dict d c cs n).most_is

  -- an AVP in full is what it has of its own and all that is under it
  full_is : (most : ℕ) (c : Cell) (cs : List Cell) → Stands dict most c cs → Sized dict c cs
      → full_size c ≡ own_size dict c + size_under c.depth dict cs
  unfolding own_size
  full_is most c cs t s =
      by_cases (is_group_cell dict c)
      (λ g. rw g (omega (arith, s.one g, even_of dict c cs s g)))
      (λ g.
      let n : is_tree c.depth dict cs ≡ true = rw g at t.rest in
      let u = under_shallow dict c.depth cs (tree_shallow c.depth cs n) in
      rw g (omega arith))

  -- what is under a depth: the members one deeper in full, and what stands before the first of them
  under_members : (cs : List Cell) (most d : ℕ) → is_tree most dict cs ≡ true → has_sizes_under dict cs ≡ true
      → size_under d dict cs ≡ members_size (d + 1) cs + size_under (d + 1) dict cs
  unfolding size_under members_size
  under_members [] most d n z = refl
  under_members (c ∷ cs) most d n z =
      let t = stands dict most c cs n in
      let s = sized dict c cs z in
      let ih = under_members cs _ d t.rest s.rest in
      let f = full_is most c cs t s in
      by_cases (ltb d c.depth)
      (λ h.
      let k = ltb-true d c.depth h in
      by_cases (eqb c.depth (d + 1))
      (λ e.
      let q = eqb-true c.depth (d + 1) e in
      let u = f ∙ ap (λ (k : ℕ). own_size dict c + size_under k dict cs) q in
      rw (h, e, le-ltb (d + 1) c.depth (omega arith), le-ltb c.depth (d + 1) (omega arith)) (omega arith))
      (λ e.
      let q = eqb-false c.depth (d + 1) e in
      rw (h, e, lt-ltb (d + 1) c.depth (omega arith), le-ltb c.depth (d + 1) (omega arith)) (omega arith)))
      (λ h.
      let k = ltb-false d c.depth h in
      rw (h, lt-ltb c.depth (d + 1) (omega arith), le-ltb (d + 1) c.depth (omega arith)))

  -- in a tree that begins one deeper, all that is under a depth are the members
  pub members_under : (cs : List Cell) (d : ℕ) → is_tree (d + 1) dict cs ≡ true → has_sizes_under dict cs ≡ true
      → members_size (d + 1) cs ≡ size_under d dict cs
  members_under cs d n z =
      let e = under_members cs (d + 1) d n z in
      let u = under_shallow dict (d + 1) cs (tree_shallow (d + 1) cs n) in
      omega arith

  -- the two tests are one
  pub sizes_same : (cs : List Cell) (most : ℕ) → is_tree most dict cs ≡ true → has_sizes dict cs ≡ has_sizes_under dict cs
  unfolding has_sizes has_sizes_under
  sizes_same [] most n = refl
  sizes_same (c ∷ cs) most n =
      let t = stands dict most c cs n in
      let ih = sizes_same cs _ t.rest in
      by_cases (is_group_cell dict c)
      (λ g.
      let m : is_tree (c.depth + 1) dict cs ≡ true = rw g at t.rest in
      by_cases (has_sizes_under dict cs)
      (λ z. rw (g, ih, members_under cs c.depth m z))
      (λ z. simp (ih, z, and-false)))
      (λ g. rw (g, ih))
