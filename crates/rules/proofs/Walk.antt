-- Laws of the walk's definitions, case by case: the checks of an AVP, one AVP, and the list. They hold for every
-- dictionary.
use mathlib.Core.Path.{◌≡◌, refl, ◌∙◌}
use Rattle.std.specs.Prelude.{Err}
use mathlib.Core.Bool.{Bool, true, false, cond}
use mathlib.Core.List.{List, [], ◌∷◌, ◌++◌, append_assoc}
use Prim.Native.Nat.{ℕ, zero, suc, ◌+◌, ◌-◌, ◌≤◌, ◌<◌}
use native.Mathlib.Omega.{arith}
use borrow.Author.Tests.{lt-ltb, le-ltb, le-leb, lt-leb}
use lib.Dec.{ltb}
use Rattle.rules.specs.declared.Avp.{Avp}
use Rattle.rules.specs.declared.Verdict.{Verdict}
use Rattle.rules.specs.Octets.{number_at, padded}
use Rattle.rules.specs.Verdict.{verdict, refused, refuse_if, no_refusal}
use Rattle.rules.specs.Avp.{code_at, flags_at, flag_v, length_at, header_of, avp_at}
use Rattle.rules.specs.declared.Entry.{Entry}
use Rattle.rules.specs.Dictionary.{defined, is_group, Definition}
use Rattle.rules.specs.Walk.{Standing, most_avps, framing, wrong_flags, unsupported, wrong_width, wrong_value, too_deep, contents, checked_avp, checked, Walked, whole, stopped, avps_of, after, and_then, in_group, behind, walk_avp, walk_list, Fault, Plain, Group}

-- a test holds or it does not
pub by_cases : {C : Type 0} (b : Bool) → (b ≡ true → C) → (b ≡ false → C) → C
by_cases true f g = f refl
by_cases false f g = g refl

-- a refusal is no pass
pub never : {C : Type 0} {v : Verdict} → Err v ≡ no_refusal → C
never e = let z : ◌≡◌ {A = ℕ} 0 1 = cc in absurd (omega arith)

-- ---- check 2

module _ (s : List ℕ) (at end : ℕ) where
  pub framing_left : end - at < 8 → framing s at end ≡ refused 5014 at 0 0
  unfolding framing
  framing_left h = rw (lt-ltb (end - at) 8 h)

  pub framing_vendor_left : 8 ≤ end - at → flag_v (flags_at s at) ≡ true → end - at < 12
      → framing s at end ≡ refused 5014 at 0 (code_at s at)
  unfolding framing
  framing_vendor_left h v k = rw (le-ltb (end - at) 8 h, v, lt-ltb (end - at) 12 k)

  -- a header that the list holds: what is left is to test the length field
  pub framing_by : (v : Bool) → flag_v (flags_at s at) ≡ v → header_of v ≤ end - at
      → framing s at end
      ≡ refuse_if (ltb (length_at s at) (header_of v)) (refused 5014 at (cond v (number_at 4 s (at + 8)) 0) (code_at s at))
      (refuse_if (ltb (end - at) (padded (length_at s at))) (refused 5014 at (cond v (number_at 4 s (at + 8)) 0) (code_at s at))
      no_refusal)
  unfolding framing
  framing_by true e h =
      let k : 8 ≤ end - at = omega arith in
      rw (le-ltb (end - at) 8 k, e, le-ltb (end - at) 12 h)
  framing_by false e h = rw (le-ltb (end - at) 8 h, e)

  pub framing_pass : (v : Bool) → flag_v (flags_at s at) ≡ v → header_of v ≤ end - at → header_of v ≤ length_at s at
      → padded (length_at s at) ≤ end - at → framing s at end ≡ no_refusal
  framing_pass v e h k l =
      framing_by v e h ∙ rw (le-ltb (length_at s at) (header_of v) k, le-ltb (end - at) (padded (length_at s at)) l)

-- ---- checks 3 to 7

module _ (s : List ℕ) (at : ℕ) (a : Avp) (d : Definition) where
  pub contents_3009 : wrong_flags (flags_at s at) a d ≡ true → contents s at a d ≡ refused 3009 at a.vendor a.code
  unfolding contents
  contents_3009 h = rw h

  module _ (flags : wrong_flags (flags_at s at) a d ≡ false) where
    pub contents_5001 : unsupported a d ≡ true → contents s at a d ≡ refused 5001 at a.vendor a.code
    unfolding contents
    contents_5001 h = rw (flags, h)

    module _ (known : unsupported a d ≡ false) where
      pub contents_5014 : wrong_width a d ≡ true → contents s at a d ≡ refused 5014 at a.vendor a.code
      unfolding contents
      contents_5014 h = rw (flags, known, h)

      module _ (width : wrong_width a d ≡ false) where
        pub contents_5004 : wrong_value a (number_at 4 s a.start) ≡ true → contents s at a d ≡ refused 5004 at a.vendor a.code
        unfolding contents
        contents_5004 h = rw (flags, known, width, h)

        module _ (value : wrong_value a (number_at 4 s a.start) ≡ false) where
          pub contents_7003 : too_deep a d ≡ true → contents s at a d ≡ refused 7003 at a.vendor a.code
          unfolding contents
          contents_7003 h = rw (flags, known, width, value, h)

          pub contents_pass : too_deep a d ≡ false → contents s at a d ≡ no_refusal
          unfolding contents
          contents_pass h = rw (flags, known, width, value, h)

-- ---- the seven checks

module _ (dict : List Entry) (s : List ℕ) (w : Standing) where
  pub checked_many : most_avps ≤ w.count → checked dict s w ≡ Fault (verdict 7002 w.at 0 0)
  unfolding checked
  checked_many h = rw (le-leb most_avps w.count h)

  module _ (few : w.count < most_avps) where
    pub checked_frame : {v : Verdict} → framing s w.at w.end ≡ Err v → checked dict s w ≡ Fault v
    unfolding checked
    checked_frame e = rw (lt-leb most_avps w.count few, e)

    module _ (pass : framing s w.at w.end ≡ no_refusal) (a : Avp) (is : a ≡ avp_at s w.at w.depth) where
      pub checked_on : checked dict s w ≡ checked_avp dict s w.at a
      unfolding checked
      checked_on = rw (lt-leb most_avps w.count few, pass, is)

      module _ (d : Definition) (says : d ≡ defined dict a) where
        pub checked_content : {v : Verdict} → contents s w.at a d ≡ Err v → checked dict s w ≡ Fault v
        checked_content e = checked_on ∙ rw (← says, e)

        pub checked_group : contents s w.at a d ≡ no_refusal → is_group d ≡ true → checked dict s w ≡ Group a
        checked_group e g = checked_on ∙ rw (← says, e, g)

        pub checked_plain : contents s w.at a d ≡ no_refusal → is_group d ≡ false → checked dict s w ≡ Plain a
        checked_plain e g = checked_on ∙ rw (← says, e, g)

-- ---- walks: AVPs before, and AVPs after

pub after_nil : (w : Walked) → after [] w ≡ w
after_nil (whole xs) = refl
after_nil (stopped xs v) = refl

pub after_after : (xs ys : List Avp) (w : Walked) → after xs (after ys w) ≡ after (xs ++ ys) w
after_after xs ys (whole zs) = simp append_assoc
after_after xs ys (stopped zs v) = simp append_assoc

pub avps_after : (xs : List Avp) (w : Walked) → avps_of (after xs w) ≡ xs ++ avps_of w
avps_after xs (whole zs) = refl
avps_after xs (stopped zs v) = refl

-- ---- one AVP

module _ (list : Standing → Walked) (dict : List Entry) (s : List ℕ) (w : Standing) where
  pub avp_fault : {v : Verdict} → checked dict s w ≡ Fault v → walk_avp list dict s w ≡ stopped [] v
  unfolding walk_avp
  avp_fault e = rw e

  pub avp_plain : {a : Avp} → checked dict s w ≡ Plain a → walk_avp list dict s w ≡ whole (a ∷ [])
  unfolding walk_avp
  avp_plain e = rw e

  pub avp_group : {a : Avp} → checked dict s w ≡ Group a → walk_avp list dict s w ≡ after (a ∷ []) (list (in_group w a))
  unfolding walk_avp
  avp_group e = rw e

  pub avp_many : most_avps ≤ w.count → walk_avp list dict s w ≡ stopped [] (verdict 7002 w.at 0 0)
  avp_many h = avp_fault (checked_many dict s w h)

-- ---- the list

pub list_none : (dict : List Entry) (s : List ℕ) (w : Standing) → walk_list zero dict s w ≡ whole []
unfolding walk_list
list_none dict s w = refl

pub list_end : (n : ℕ) (dict : List Entry) (s : List ℕ) (w : Standing) → w.end ≤ w.at → walk_list n dict s w ≡ whole []
unfolding walk_list
list_end zero dict s w h = refl
list_end (suc n) dict s w h = rw (le-ltb w.at w.end h)

pub list_more : (n : ℕ) (dict : List Entry) (s : List ℕ) (w : Standing) → w.at < w.end
    → walk_list (suc n) dict s w ≡ and_then (walk_avp (walk_list n dict s) dict s w) (λ k. walk_list n dict s (behind s w k))
unfolding walk_list
list_more n dict s w h = rw (lt-ltb w.at w.end h)
