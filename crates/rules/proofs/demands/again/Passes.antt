-- Items in walk order that pass checks 3 to 7 over some octets: they do so over others where items of the same cells
-- stand, and the numbers that the exchange rules read are the same.
use mathlib.Core.Path.{◌≡◌, refl, sym, ap, ◌∙◌}
use Rattle.rules.specs.Verdict.{no_refusal}
use mathlib.Core.Bool.{true, false}
use mathlib.Core.List.{List, [], ◌∷◌, map}
use Prim.Native.Nat.{ℕ, zero, suc, ◌+◌, ◌≤◌}
use native.Mathlib.Omega.{arith}
use borrow.Author.Tests.{lt-leb}
use lib.ListN.{length, drop}
use Rattle.rules.specs.declared.Avp.{Avp}
use Rattle.rules.specs.Octets.{number_at}
use Rattle.rules.specs.Avp.{named}
use Rattle.rules.specs.declared.Entry.{Entry}
use Rattle.rules.specs.Dictionary.{dictionary}
use Rattle.rules.specs.Walk.{whole, after}
use Rattle.rules.specs.Search.{blank, avp_in}
use Rattle.rules.specs.Meaning.{Cell}
use Rattle.rules.proofs.demands.items.Items.{Item, cell_in, octets_of, step, avp_of, avps_at, All, Fit, judged}
use Rattle.rules.proofs.demands.items.Sequences.{octets_cons, past_item, avps_nil, avps_cons}
use Rattle.rules.proofs.demands.items.Lists.{not_both}
use Rattle.rules.proofs.demands.written.Judged.{contents_of, judged_pass, judged_nil}
use Rattle.rules.proofs.demands.written.Cells.{first_passes}
use Rattle.rules.proofs.demands.agreement.Depths.{flat}
use Rattle.rules.proofs.demands.agreement.Alike.{step_same}
use Rattle.rules.proofs.demands.again.Contents.{Four, four_same, contents_again}

-- ---- all items pass

abbrev pub Passes : List Entry → List ℕ → ℕ → List Item → Type 0
Passes dict s at [] = Unit {0}
Passes dict s at (x ∷ xs) = (contents_of dict s at x ≡ no_refusal) × Passes dict s (at + step x) xs

module _ (dict : List Entry) (s : List ℕ) where
  pub passes_of : (xs : List Item) (count at : ℕ) (avps : List Avp) → judged dict s count at xs ≡ whole avps
      → Passes dict s at xs
  passes_of [] count at avps e = tt
  passes_of (x ∷ xs) count at avps e =
      let i = first_passes dict s x xs count at avps e in
      (i.pass, passes_of xs (count + 1) (at + step x) i.rest i.rest_is)

  pub judged_whole : (xs : List Item) (count at : ℕ) → count + length xs ≤ 256 → Passes dict s at xs
      → judged dict s count at xs ≡ whole (avps_at at xs)
  judged_whole [] count at h p = judged_nil dict s count at ∙ ap whole (sym (avps_nil at))
  judged_whole (x ∷ xs) count at h p =
      judged_pass dict s count at x xs (lt-leb 256 count (omega arith)) p.0
      ∙ ap (after (avp_of at x ∷ [])) (judged_whole xs (count + 1) (at + step x) (omega arith) p.1)
      ∙ ap whole (sym (avps_cons at x xs))

-- ---- items of the same cells

pub avps_same : (dict : List Entry) (xs ys : List Item) (at : ℕ) → All (Fit dict) xs → All (Fit dict) ys
    → map cell_in xs ≡ map cell_in ys
    → avps_at at xs ≡ avps_at at ys
avps_same dict [] [] at f g e = refl
avps_same dict [] (y ∷ ys) at f g e = let z : ◌≡◌ {A = ℕ} 0 1 = cc in absurd (omega arith)
avps_same dict (x ∷ xs) [] at f g e = let z : ◌≡◌ {A = ℕ} 0 1 = cc in absurd (omega arith)
avps_same dict (x ∷ xs) (y ∷ ys) at f g e =
    let c : x.cell ≡ y.cell = cc in
    let e' : map cell_in xs ≡ map cell_in ys = cc in
    let a : avp_of at x ≡ avp_of at y = ap (λ (q : Cell). avp_of at (record { cell = q; padding = [] })) c in
    rw (
      avps_cons at x xs,
      avps_cons at y ys,
      a,
      step_same dict x y f.0 g.0 (ap flat c),
      avps_same dict xs ys (at + step y) f.1 g.1 e',
    )

module _ (s t : List ℕ) where
  -- what two lists of the same cells have behind their first items
  record Behind (x y : Item) (xs ys : List Item) (at : ℕ) : Type 0 where
    cell : x.cell ≡ y.cell
    cells : map cell_in xs ≡ map cell_in ys
    steps : step x ≡ step y
    left : drop (at + step x) s ≡ octets_of xs
    right : drop (at + step x) t ≡ octets_of ys

  behind : (x y : Item) (xs ys : List Item) (at : ℕ) → Fit dictionary x → Fit dictionary y
      → map cell_in (x ∷ xs) ≡ map cell_in (y ∷ ys)
      → drop at s ≡ octets_of (x ∷ xs) → drop at t ≡ octets_of (y ∷ ys) → Behind x y xs ys at
  behind x y xs ys at f g e es et =
      let c : x.cell ≡ y.cell = cc in
      let st = step_same dictionary x y f g (ap flat c) in
      record {
        cell = c;
        cells = cc;
        steps = st;
        left = past_item x s _ at (es ∙ octets_cons x xs);
        right = ap (λ (k : ℕ). drop (at + k) t) st ∙ past_item y t _ at (et ∙ octets_cons y ys);
      }

  pub passes_again : (xs ys : List Item) (at : ℕ) → All (Fit dictionary) xs → All (Fit dictionary) ys
      → map cell_in xs ≡ map cell_in ys
      → drop at s ≡ octets_of xs → drop at t ≡ octets_of ys → Passes dictionary s at xs → Passes dictionary t at ys
  passes_again [] [] at f g e es et p = tt
  passes_again [] (y ∷ ys) at f g e es et p = let z : ◌≡◌ {A = ℕ} 0 1 = cc in absurd (omega arith)
  passes_again (x ∷ xs) [] at f g e es et p = let z : ◌≡◌ {A = ℕ} 0 1 = cc in absurd (omega arith)
  passes_again (x ∷ xs) (y ∷ ys) at f g e es et p =
      let b = behind x y xs ys at f.0 g.0 e es et in
      let ih = passes_again xs ys (at + step x) f.1 g.1 b.cells b.left b.right p.1 in (
        contents_again s t at x y f.0 b.cell _ _ (es ∙ octets_cons x xs) (et ∙ octets_cons y ys) p.0,
        rw b.steps at ih,
      )

  -- the number of an AVP whose data is four octets
  pub numbers_again : (vendor code : ℕ) → Four vendor code → named blank vendor code ≡ false
      → (xs ys : List Item) (at : ℕ)
      → All (Fit dictionary) xs → All (Fit dictionary) ys → map cell_in xs ≡ map cell_in ys
      → drop at s ≡ octets_of xs → drop at t ≡ octets_of ys → Passes dictionary s at xs
      → (i : ℕ) → named (avp_in (avps_at at xs) i) vendor code ≡ true
      → number_at 4 s (avp_in (avps_at at xs) i).start ≡ number_at 4 t (avp_in (avps_at at xs) i).start
  numbers_again vendor code four other [] [] at f g e es et p i n = not_both _ (rw (avps_nil at) at n) other
  numbers_again vendor code four other [] (y ∷ ys) at f g e es et p i n =
      let z : ◌≡◌ {A = ℕ} 0 1 = cc in absurd (omega arith)
  numbers_again vendor code four other (x ∷ xs) [] at f g e es et p i n =
      let z : ◌≡◌ {A = ℕ} 0 1 = cc in absurd (omega arith)
  numbers_again vendor code four other (x ∷ xs) (y ∷ ys) at f g e es et p zero n =
      let c : x.cell ≡ y.cell = cc in
      rw (avps_cons at x xs)
      (four_same s t at x y f.0 c _ _ (es ∙ octets_cons x xs) (et ∙ octets_cons y ys) p.0 vendor code four
      (rw (avps_cons at x xs) at n))
  numbers_again vendor code four other (x ∷ xs) (y ∷ ys) at f g e es et p (suc i) n =
      let b = behind x y xs ys at f.0 g.0 e es et in
      rw (avps_cons at x xs)
      (numbers_again vendor code four other xs ys (at + step x) f.1 g.1 b.cells b.left b.right p.1 i
      (rw (avps_cons at x xs) at n))
