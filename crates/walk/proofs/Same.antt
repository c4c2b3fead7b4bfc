-- Two dictionaries in which the same is found for every name are walked alike.
use mathlib.Core.Path.{◌≡◌, refl, ap, ◌∙◌}
use mathlib.Core.List.{List, [], ◌∷◌}
use mathlib.Core.Bool.{cond}
use Prim.Native.Nat.{ℕ, zero, suc}
use lib.Dec.{ltb}
use lib.ListN.{length}
use Rattle.rules.specs.declared.Avp.{Avp}
use Rattle.rules.specs.Verdict.{verdict}
use Rattle.rules.specs.Avp.{avp_at}
use Rattle.rules.specs.declared.Entry.{Entry}
use Rattle.rules.specs.Dictionary.{find, is_group, Definition}
use Rattle.rules.specs.Walk.{Standing, is_full, framing, contents, settled, checked, Walked, whole, stopped, after, and_then, in_group, behind, entered, walk_avp, walk_list, Checked, Fault, Plain, Group}

then_same : (w : Walked) (f g : ℕ → Walked) → ((k : ℕ) → f k ≡ g k) → and_then w f ≡ and_then w g
then_same (whole xs) f g h = ap (after xs) (h (length xs))
then_same (stopped xs v) f g h = refl

entered_same : (f g : Standing → Walked) → ((w : Standing) → f w ≡ g w) → (w : Standing) (c : Checked) → entered f w c ≡ entered g w c
entered_same f g h w (Fault v) = refl
entered_same f g h w (Plain a) = refl
entered_same f g h w (Group a) = ap (after (a ∷ [])) (h (in_group w a))

module _ (d e : List Entry) (same : (vendor code : ℕ) → find d vendor code ≡ find e vendor code) (s : List ℕ) where
  checked_same : (w : Standing) → checked d s w ≡ checked e s w
  unfolding checked
  checked_same w =
      let a : Avp = avp_at s w.at w.depth in
      ap (λ (x : Definition).
      cond (is_full w) (Fault (verdict 7002 w.at 0 0))
      (settled (framing s w.at w.end) (settled (contents s w.at a x) (cond (is_group x) (Group a) (Plain a)))))
      (same a.vendor a.code)

  pub walk_same : (n : ℕ) (w : Standing) → walk_list n d s w ≡ walk_list n e s w
  unfolding walk_list walk_avp
  walk_same zero w = refl
  walk_same (suc n) w =
      let one : walk_avp (walk_list n d s) d s w ≡ walk_avp (walk_list n e s) e s w =
      entered_same (walk_list n d s) (walk_list n e s) (walk_same n) w (checked d s w)
      ∙ ap (entered (walk_list n e s) w) (checked_same w) in
      ap (λ (x : Walked). cond (ltb w.at w.end) x (whole []))
      (ap (λ (x : Walked). and_then x (λ k. walk_list n d s (behind s w k))) one
      ∙ then_same (walk_avp (walk_list n e s) e s w) (λ k. walk_list n d s (behind s w k)) (λ k. walk_list n e s (behind s w k))
      (λ k. walk_same n (behind s w k)))
