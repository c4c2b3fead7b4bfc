-- The AVPs that a walk gives over the octets of items have the items' cells, and a walk that is whole met no limit.
use mathlib.Core.Path.{◌≡◌, refl, sym, ap, ◌∙◌}
use Rattle.rules.specs.Verdict.{no_refusal}
use mathlib.Core.List.{List, [], ◌∷◌, ◌++◌, map}
use Prim.Native.Nat.{ℕ, ◌+◌, ◌≤◌, ◌<◌}
use native.Mathlib.Omega.{arith}
use borrow.Author.Tests.{leb-false}
use lib.Dec.{leb}
use lib.ListN.{length, take, drop}
use lib.Seq.{take_at}
use Rattle.rules.specs.declared.Avp.{Avp}
use Rattle.rules.specs.declared.Verdict.{Verdict}
use Rattle.rules.specs.Avp.{header_of}
use Rattle.rules.specs.declared.Entry.{Entry}
use Rattle.rules.specs.Walk.{most_avps, Walked, whole, stopped, after}
use Rattle.rules.specs.Meaning.{cell_of}
use Rattle.rules.specs.Wire.{has_vendor, avp_header}
use Rattle.rules.proofs.Walk.{by_cases}
use Rattle.rules.proofs.demands.items.Items.{Item, cell_in, octets_of, step, avp_of, avps_at, All, Fit, judged}
use Rattle.rules.proofs.demands.octets.Numbers.{drop-on}
use Rattle.rules.proofs.demands.items.Trees.{is_group_cell}
use Rattle.rules.proofs.demands.items.Sequences.{nil_of, length-header, front_item, past_item, avps_nil, avps_cons}
use Rattle.rules.proofs.demands.written.Judged.{by_outcome, contents_of, judged_many, judged_refused, judged_pass, judged_nil}

-- a walk that stopped is not whole
pub never_whole : {C : Type 0} {xs ys : List Avp} {v : Verdict} → stopped xs v ≡ whole ys → C
never_whole e = let z : ◌≡◌ {A = ℕ} 0 1 = cc in absurd (omega arith)

pub after_whole : (xs zs : List Avp) (w : Walked) → after xs w ≡ whole zs
    → (ys : List Avp) × (w ≡ whole ys) × (zs ≡ xs ++ ys)
after_whole xs zs (whole ys) e = (ys, refl, cc)
after_whole xs zs (stopped ys v) e = never_whole e

module _ (dict : List Entry) (s : List ℕ) where
  -- the data of an AVP that is no read group are its octets; a read group has none
  cell_of_lem : (x : Item) (tail : List ℕ) (at : ℕ) → Fit dict x
      → drop at s ≡ avp_header x.cell ++ (x.cell.octets ++ tail) → cell_of dict s (avp_of at x) ≡ x.cell
  cell_of_lem x tail at f e =
      let c = x.cell in
      let h = header_of (has_vendor c) in
      let d : drop (at + h) s ≡ c.octets ++ tail = drop-on s (avp_header c) _ at (at + h) (rw (length-header c)) e in
      let o : (cell_of dict s (avp_of at x)).octets ≡ c.octets =
      by_cases (is_group_cell dict c)
      (λ g. rw g (sym (nil_of _ (f.data_is ∙ rw g))))
      (λ g. rw g (ap (take c.length) d ∙ take_at c.octets tail c.length (f.data_is ∙ rw g))) in
      rw o

  pub cells_of : (xs : List Item) (post : List ℕ) (at : ℕ) → All (Fit dict) xs → drop at s ≡ octets_of xs ++ post
      → map (cell_of dict s) (avps_at at xs) ≡ map cell_in xs
  cells_of [] post at f e = ap (map (cell_of dict s)) (avps_nil at)
  cells_of (x ∷ xs) post at f e =
      let d = front_item x xs s post at e in
      let ih = cells_of xs post (at + step x) f.1 (past_item x s _ at d) in
      ap (map (cell_of dict s)) (avps_cons at x xs) ∙ rw (cell_of_lem x _ at f.0 d, ih)

  -- the first item of a walk that is whole passes, below the limit; the walk of the others is whole
  pub record FirstPasses (x : Item) (xs : List Item) (count at : ℕ) (avps : List Avp) : Type 0 where
    pub few : count < most_avps
    pub pass : contents_of dict s at x ≡ no_refusal
    pub rest : List Avp
    pub rest_is : judged dict s (count + 1) (at + step x) xs ≡ whole rest
    pub first_is : avps ≡ avp_of at x ∷ rest

  pub first_passes : (x : Item) (xs : List Item) (count at : ℕ) (avps : List Avp)
      → judged dict s count at (x ∷ xs) ≡ whole avps → FirstPasses x xs count at avps
  first_passes x xs count at avps e =
      by_cases (leb most_avps count)
      (λ m. never_whole (sym (judged_many dict s count at x xs m) ∙ e))
      (λ m. by_outcome (contents_of dict s at x)
      (λ o.
      let i =
      after_whole (avp_of at x ∷ []) avps (judged dict s (count + 1) (at + step x) xs)
      (sym (judged_pass dict s count at x xs m o) ∙ e) in
      record { few = leb-false most_avps count m; pass = o; rest = i.0; rest_is = i.1; first_is = i.2 })
      (λ v o. never_whole (sym (judged_refused dict s count at x xs m o) ∙ e)))

  -- a walk that is whole gave each item's AVP, and no more than 256
  pub record Within (count at : ℕ) (xs : List Item) (avps : List Avp) : Type 0 where
    pub avps_are : avps ≡ avps_at at xs
    pub few : count + length xs ≤ most_avps

  pub within : (xs : List Item) (count at : ℕ) (avps : List Avp) → count ≤ most_avps
      → judged dict s count at xs ≡ whole avps
      → Within count at xs avps
  within [] count at avps h e =
      let z : whole [] ≡ whole avps = sym (judged_nil dict s count at) ∙ e in
      let y : [] ≡ avps = cc in
      record { avps_are = sym y ∙ sym (avps_nil at); few = omega arith }
  within (x ∷ xs) count at avps h e =
      let i = first_passes x xs count at avps e in
      let w = within xs (count + 1) (at + step x) i.rest (omega (arith, i.few)) i.rest_is in
      record {
        avps_are = i.first_is ∙ ap (λ (l : List Avp). avp_of at x ∷ l) w.avps_are ∙ sym (avps_cons at x xs);
        few = omega (arith, w.few);
      }
