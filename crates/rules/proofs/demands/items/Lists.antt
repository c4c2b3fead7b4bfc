-- Items that make a list at a depth: how the list is taken apart at its first item and put together again. A read group
-- is followed by the run of deeper items, its members.
use mathlib.Core.Path.{◌≡◌, refl, sym, ap, ◌∙◌}
use mathlib.Core.Bool.{Bool, true, false}
use mathlib.Core.List.{List, [], ◌∷◌, ◌++◌, map, append-nil, map-append}
use Prim.Native.Nat.{ℕ, ◌+◌, ◌*◌, ◌≤◌}
use native.Mathlib.Nat.{add-zero}
use native.Mathlib.Omega.{arith}
use borrow.Author.Tests.{ltb-true, ltb-false}
use lib.Dec.{ltb}
use lib.ListN.{length}
use Rattle.rules.specs.Octets.{padded}
use Rattle.rules.specs.Avp.{header_of}
use Rattle.rules.specs.declared.Entry.{Entry}
use Rattle.rules.specs.Walk.{deepest}
use Rattle.rules.specs.Meaning.{Cell}
use Rattle.rules.specs.Wire.{has_vendor}
use Rattle.rules.specs.Draft.{is_tree}
use Rattle.rules.proofs.Walk.{by_cases}
use Rattle.rules.proofs.demands.items.Items.{Item, cell_in, octets_of, step, All, Fit, own_size, size_under, has_sizes_under, Listed}
use Rattle.rules.proofs.demands.items.Sequences.{all_append, all_left, all_right, nil_of, octets_nil, length-cons}
use Rattle.rules.proofs.demands.items.Trees.{Deep, Shallow, deep_over, over_deep, over_less, over-append, over_right, is_group_cell, stands, tree_of, tree_nil, tree_tail, tree_right, sized, sizes_of, sizes_nil, own_is, size_of, size_nil, size_cons, under_shallow, under_deep, sizes_right, sizes_tail, even_of, size_words}

-- a test does not both hold and fail
pub not_both : {C : Type 0} (b : Bool) → b ≡ true → b ≡ false → C
not_both b h g = let z : ◌≡◌ {A = Bool} true false = sym h ∙ g in let y : ◌≡◌ {A = ℕ} 0 1 = cc in absurd (omega arith)

-- ---- the run of deeper items, and the rest

pub record Run (d : ℕ) (xs : List Item) : Type 0 where
  pub inner : List Item
  pub rest : List Item
  pub is : xs ≡ inner ++ rest
  pub down : Deep d (map cell_in inner)
  pub up : Shallow d (map cell_in rest)

pub run : (d : ℕ) (xs : List Item) → Run d xs
run d [] = record { inner = []; rest = []; is = refl; down = tt; up = tt }
run d (x ∷ xs) =
    let p = run d xs in
    by_cases (ltb d x.cell.depth)
    (λ h. record {
      inner = x ∷ p.inner;
      rest = p.rest;
      is = ap (λ (l : List Item). x ∷ l) p.is;
      down = (ltb-true _ _ h, p.down);
      up = p.up;
    })
    (λ h. record { inner = []; rest = x ∷ xs; is = refl; down = tt; up = ltb-false _ _ h })

module _ (dict : List Entry) where
  -- ---- lengths and octets

  -- a read group has no padding
  abbrev pub Tight : Item → Type 0
  Tight x = is_group_cell dict x.cell ≡ true → padded x.cell.length ≡ x.cell.length

  pub tights : (xs : List Item) → has_sizes_under dict (map cell_in xs) ≡ true → All Tight xs
  tights [] z = tt
  tights (x ∷ xs) z =
      let s = sized dict x.cell (map cell_in xs) z in
      (even_of dict x.cell (map cell_in xs) s, tights xs s.rest)

  pub own_step : (x : Item) → Fit dict x → Tight x → step x ≡ own_size dict x.cell
  own_step x f t = own_is dict x.cell _ _ f.data_is f.padding_is t

  pub own_plain : (c : Cell) → is_group_cell dict c ≡ false → own_size dict c ≡ header_of (has_vendor c) + padded c.length
  unfolding own_size
  own_plain c g = rw g

  pub size_octets : (xs : List Item) → All (Fit dict) xs → All Tight xs
      → length (octets_of xs) ≡ size_of dict (map cell_in xs)
  size_octets [] f t = ap length octets_nil ∙ sym (size_nil dict)
  size_octets (x ∷ xs) f t =
      length-cons x xs
      ∙ omega (arith, own_step x f.0 t.0, size_octets xs f.1 t.1, size_cons dict x.cell (map cell_in xs))

  -- the octets of a run, before what is no deeper
  under_run : (xs ys : List Item) (d : ℕ) → All (Fit dict) xs → has_sizes_under dict (map cell_in xs) ≡ true
      → Deep d (map cell_in xs) → Shallow d (map cell_in ys)
      → size_under d dict (map cell_in xs ++ map cell_in ys) ≡ length (octets_of xs)
  under_run xs ys d f z dn up =
      under_deep dict (map cell_in xs) (map cell_in ys) d dn
      ∙ rw (under_shallow dict d (map cell_in ys) up, add-zero) (sym (size_octets xs f (tights xs z)))

  -- ---- a list at a depth

  pub listed_nil : (d : ℕ) → Listed dict d []
  listed_nil d = record { fit = tt; over = tt; tree = tree_nil dict d; sizes = sizes_nil dict }

  -- a list has a multiple of four octets
  pub words : (d : ℕ) (xs : List Item) → Listed dict d xs → (k : ℕ) × (length (octets_of xs) ≡ k * 4)
  words d xs s =
      let p = size_words dict (map cell_in xs) in
      (p.0, size_octets xs s.fit (tights xs s.sizes) ∙ p.1)

  -- a list at a depth begins there
  pub listed_shallow : (d : ℕ) (xs : List Item) → Listed dict d xs → Shallow d (map cell_in xs)
  listed_shallow d [] s = tt
  listed_shallow d (x ∷ xs) s = (stands dict d x.cell (map cell_in xs) s.tree).most_is

  -- a first item that is no read group
  pub listed_plain : (d : ℕ) (x : Item) (xs : List Item) → Listed dict d (x ∷ xs) → is_group_cell dict x.cell ≡ false
      → (x.cell.depth ≡ d) × Listed dict d xs
  listed_plain d x xs s g =
      let st = stands dict d x.cell (map cell_in xs) s.tree in
      let e : x.cell.depth ≡ d = omega (arith, st.most_is, s.over.0) in (
        e,
        record {
          fit = s.fit.1;
          over = s.over.1;
          tree = rw (g, e) at st.rest;
          sizes = (sized dict x.cell (map cell_in xs) s.sizes).rest;
        },
      )

  -- a read group with its members, and what follows
  pub record GroupOf (d : ℕ) (x : Item) (xs ys : List Item) : Type 0 where
    pub inner : Listed dict (d + 1) xs
    pub outer : Listed dict d ys
    pub length-is : x.cell.length ≡ length (octets_of xs)
    pub data_nil : x.cell.octets ≡ []
    pub padding_nil : x.padding ≡ []
    pub even : padded x.cell.length ≡ x.cell.length

  -- a first item that is a read group
  pub listed_group : (d : ℕ) (x : Item) (xs ys : List Item) → Listed dict d (x ∷ (xs ++ ys))
      → is_group_cell dict x.cell ≡ true
      → Deep d (map cell_in xs) → Shallow d (map cell_in ys) → (x.cell.depth ≡ d) × GroupOf d x xs ys
  listed_group d x xs ys s g dn up =
      let ins = map cell_in xs in
      let outs = map cell_in ys in
      let cs = map cell_in (xs ++ ys) in
      let q : cs ≡ ins ++ outs = map-append cell_in xs ys in
      let st = stands dict d x.cell cs s.tree in
      let e : x.cell.depth ≡ d = omega (arith, st.most_is, s.over.0) in
      let z = sized dict x.cell cs s.sizes in
      let n : is_tree (d + 1) dict (ins ++ outs) ≡ true = rw (g, e, q) at st.rest in
      let zz : has_sizes_under dict (ins ++ outs) ≡ true = rw q at z.rest in
      let fx = all_left (Fit dict) xs ys s.fit.1 in
      let ov = deep_over d ins dn in
      let zx : has_sizes_under dict ins ≡ true =
      rw append-nil at (sizes_tail dict ins outs [] d (over_less (d + 1) d ins (omega arith) ov) up tt zz
      (sizes_nil dict)) in
      let t = (tights (x ∷ (xs ++ ys)) s.sizes).0 g in
      let l : x.cell.length ≡ length (octets_of xs) =
      z.one g ∙ rw (e, q) (under_run xs ys d fx zx dn up) in (
        e,
        record {
          inner = record {
            fit = fx;
            over = ov;
            sizes = zx;
            tree = rw append-nil at (tree_tail dict ins outs [] (d + 1) d dn (omega arith) n (tree_nil dict d));
          };
          outer = record {
            fit = all_right (Fit dict) xs ys s.fit.1;
            over = over_right d ins outs (rw q at s.over.1);
            tree = tree_right dict ins outs (d + 1) d up n;
            sizes = sizes_right dict ins outs zz;
          };
          length-is = l;
          data_nil = nil_of _ (s.fit.0.data_is ∙ rw g);
          padding_nil = nil_of _ (omega (arith, s.fit.0.padding_is));
          even = t;
        },
      )

  -- put together again
  module _ (d : ℕ) (least : 1 ≤ d) (most : d ≤ deepest) (x : Item) (fit : Fit dict x) (is : x.cell.depth ≡ d) where
    pub list_plain : (xs : List Item) → is_group_cell dict x.cell ≡ false → Listed dict d xs → Listed dict d (x ∷ xs)
    list_plain xs g s = record {
      fit = (fit, s.fit);
      over = (omega arith, s.over);
      tree = tree_of dict d x.cell (map cell_in xs)
          (record { least = omega arith; most_is = omega arith; cap = omega arith; rest = rw (g, is) s.tree });
      sizes = sizes_of dict x.cell (map cell_in xs) (record { one = λ h. not_both _ h g; rest = s.sizes });
    }

    pub list_group : (xs ys : List Item) → is_group_cell dict x.cell ≡ true → x.cell.length ≡ length (octets_of xs)
        → Listed dict (d + 1) xs → Listed dict d ys → Listed dict d (x ∷ (xs ++ ys))
    list_group xs ys g l sx sy =
        let ins = map cell_in xs in
        let outs = map cell_in ys in
        let q : map cell_in (xs ++ ys) ≡ ins ++ outs = map-append cell_in xs ys in
        let dn = over_deep d ins sx.over in
        let up = listed_shallow d ys sy in
        let ov = over_less (d + 1) d ins (omega arith) sx.over in
        record {
          fit = (fit, all_append (Fit dict) xs ys sx.fit sy.fit);
          over = (omega arith, rw q (over-append d ins outs ov sy.over));
          tree = tree_of dict d x.cell (map cell_in (xs ++ ys)) (record {
            least = omega arith;
            most_is = omega arith;
            cap = omega arith;
            rest = rw (g, is, q)
                (tree_tail dict ins [] outs (d + 1) d dn (omega arith) (rw append-nil sx.tree) sy.tree);
          });
          sizes = sizes_of dict x.cell (map cell_in (xs ++ ys)) (record {
            one = λ _. l ∙ rw (is, q) (sym (under_run xs ys d sx.fit sx.sizes dn up));
            rest = rw q (sizes_tail dict ins [] outs d ov tt up (rw append-nil sx.sizes) sy.sizes);
          });
        }
