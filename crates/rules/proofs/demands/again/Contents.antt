-- Checks 3 to 7 over other octets: items of the same cells at the same places pass together. Only check 6 reads data,
-- of AVPs that are four octets wide in the dictionary, and these are the same.
use mathlib.Core.Path.{◌≡◌, refl, sym, ap, ◌∙◌}
use Rattle.rules.specs.Verdict.{no_refusal}
use mathlib.Core.Bool.{Bool, true, false}
use mathlib.Core.List.{List, [], ◌++◌}
use Prim.Native.Nat.{ℕ, ◌+◌, ◌-◌, ◌≤◌, ◌<◌}
use native.Mathlib.Omega.{arith}
use borrow.Author.Tests.{eqb-true, not-false}
use lib.Dec.{eqb}
use lib.ListN.{length, get_or, drop}
use Rattle.rules.specs.declared.Avp.{Avp}
use Rattle.rules.specs.Octets.{number_at}
use Rattle.rules.specs.Avp.{flags_at, named}
use Rattle.rules.specs.declared.Form.TheVariants.{Fixed}
use Rattle.rules.specs.Dictionary.{dictionary, find, is_group, Known}
use Rattle.rules.specs.Walk.{contents, wrong_width, wrong_value}
use Rattle.rules.specs.Meaning.{Cell}
use Rattle.rules.specs.Wire.{has_vendor, avp_header}
use Rattle.rules.proofs.Tests.{and_true}
use Rattle.rules.proofs.Fields.{header_least}
use Rattle.rules.proofs.Walk.{by_cases, contents_pass}
use Rattle.rules.proofs.Passed.{Clear, passed}
use Rattle.rules.proofs.demands.items.Items.{Item, avp_of, Fit}
use Rattle.rules.proofs.demands.written.Judged.{contents_of}
use Rattle.rules.proofs.demands.agreement.Depths.{flat}
use Rattle.rules.proofs.demands.agreement.Paddings.{front}
use Rattle.rules.proofs.demands.agreement.Places.{number_same}
use Rattle.rules.proofs.demands.agreement.Alike.{front_same, own_octet, lies}

-- ---- names whose data is four octets

pub record Four (vendor code : ℕ) : Type 0 where
  pub m : Bool
  pub is : find dictionary vendor code ≡ Known m (Fixed 4)

pub four_277 : Four 0 277
four_277 = record { m = true; is = unfold dictionary find in refl }

pub four_4203 : Four 10415 4203
four_4203 = record { m = true; is = unfold dictionary find in refl }

pub four_4205 : Four 10415 4205
four_4205 = record { m = true; is = unfold dictionary find in refl }

pub four_4206 : Four 10415 4206
four_4206 = record { m = true; is = unfold dictionary find in refl }

-- an AVP of such a name that passed check 5
four_wide : (a : Avp) (vendor code : ℕ) → Four vendor code → named a vendor code ≡ true
    → wrong_width a (find dictionary a.vendor a.code) ≡ false
    → (a.length ≡ 4) × (is_group (find dictionary a.vendor a.code) ≡ false)
unfolding wrong_width
four_wide a vendor code f n w =
    let b = and_true (eqb a.vendor vendor) (eqb a.code code) n in
    let v = eqb-true a.vendor vendor b.0 in
    let k = eqb-true a.code code b.1 in
    let w' = rw (v, k, f.is) at w in
    (eqb-true a.length 4 (not-false _ w'), rw (v, k, f.is))

-- check 6 reads a number only of two names
value_same : (a : Avp) (n n' : ℕ) → (named a 0 277 ≡ true → n ≡ n') → (named a 10415 4203 ≡ true → n ≡ n')
    → wrong_value a n ≡ wrong_value a n'
unfolding wrong_value
value_same a n n' f g =
    by_cases (named a 0 277)
    (λ h. rw (f h))
    (λ h. by_cases (named a 10415 4203) (λ k. rw (g k)) (λ k. rw (h, k)))

-- ---- one item

module _ (s t : List ℕ) (at : ℕ) (x y : Item) (fit : Fit dictionary x) (same : x.cell ≡ y.cell) (rs rt : List ℕ)
    (es : drop at s ≡ avp_header x.cell ++ (x.cell.octets ++ rs))
    (et : drop at t ≡ avp_header y.cell ++ (y.cell.octets ++ rt))
    (pass : contents_of dictionary s at x ≡ no_refusal)
  where
    own_same : (i : ℕ) → at ≤ i → i < at + front x → get_or s i 0 ≡ get_or t i 0
    own_same i h k =
        let f = front_same x y (ap flat same) in
        own_octet dictionary s rs at i x es h k
        ∙ ap (λ (c : Cell). get_or (avp_header c ++ c.octets) (i - at) 0) same
        ∙ sym (own_octet dictionary t rt at i y et h (omega arith))

    clear : Clear (flags_at s at) (avp_of at x) (find dictionary x.cell.vendor x.cell.code)
        (number_at 4 s (avp_of at x).start)
    clear = passed s at (avp_of at x) (find dictionary x.cell.vendor x.cell.code) pass

    pub four_same : (vendor code : ℕ) → Four vendor code → named (avp_of at x) vendor code ≡ true
        → number_at 4 s (avp_of at x).start ≡ number_at 4 t (avp_of at x).start
    four_same vendor code f n =
        let w = four_wide (avp_of at x) vendor code f n clear.width in
        let own : length x.cell.octets ≡ 4 = fit.data_is ∙ rw w.1 w.0 in
        let ls = lies dictionary at x s rs es in
        let lt = lies dictionary at y t rt et in
        let fr = front_same x y (ap flat same) in
        number_same s t 4 (avp_of at x).start (omega arith) (omega arith)
        (λ i h k. own_same i (omega arith) (omega arith))

    pub contents_again : contents_of dictionary t at y ≡ no_refusal
    contents_again =
        let a = avp_of at x in
        let d = find dictionary x.cell.vendor x.cell.code in
        let h = header_least (has_vendor x.cell) in
        let f : flags_at s at ≡ flags_at t at = own_same (at + 4) (omega arith) (omega arith) in
        let v = value_same a (number_at 4 s a.start) (number_at 4 t a.start) (four_same 0 277 four_277)
        (four_same 10415 4203 four_4203) in
        let c : contents t at a d ≡ no_refusal =
        contents_pass t at a d (rw f at clear.flags) clear.known clear.width (sym v ∙ clear.value)
        clear.level in
        ap (λ (q : Cell). contents_of dictionary t at (record { cell = q; padding = [] })) (sym same) ∙ c
