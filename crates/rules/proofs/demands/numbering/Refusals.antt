-- What a test of verdicts tells of the reader's refusals: it holds of all, if it holds of each that 01 lists, since
-- each way in which 01 joins its checks keeps it. Here the header's checks and the walk; rows and exchange rules are in
-- ListRefusals, whole commands and drafts in Numbering.
use mathlib.Core.Path.{◌≡◌, refl}
use Rattle.std.specs.Prelude.{Err, Ok}
use mathlib.Core.Bool.{Bool, true, false, cond, not, ◌||◌}
use mathlib.Core.List.{List, [], ◌∷◌}
use Prim.Native.Nat.{ℕ, zero, suc, ◌%◌, ◌<◌}
use borrow.Author.Tests.{ltb-true, ltb-false, eqb-true, not-false}
use lib.Dec.{ltb, eqb}
use lib.ListN.{length}
use Rattle.rules.specs.declared.Avp.{Avp}
use Rattle.rules.specs.declared.Verdict.{Verdict}
use Rattle.rules.specs.Verdict.{verdict, or_else, Outcome, no_refusal}
use Rattle.rules.specs.Header.{header_size, length_field, longest_command, command_flags, length_outcome, application_outcome, flags_outcome, header_outcome}
use Rattle.rules.specs.Avp.{avp_at}
use Rattle.rules.specs.declared.Entry.{Entry}
use Rattle.rules.specs.Dictionary.{defined, is_group, Definition}
use Rattle.rules.specs.Walk.{Standing, is_full, framing, contents, settled, checked, Walked, whole, stopped, stop_of, after, and_then, in_group, behind, entered, walk_avp, walk_list, Checked, Fault, Plain, Group}
use Rattle.rules.proofs.Tests.{neither}
use Rattle.rules.proofs.Walk.{by_cases, list_none, list_end, list_more}

-- ---- outcomes, and what joins them

-- a refusal meets a test
unfoldable pub meets : (Verdict → Bool) → Outcome → Bool
meets t (Ok u) = true
meets t (Err v) = t v

-- the header's refusals: a test holds of each. 7001 is for those alone that are longer than 16,384
pub record HeaderRefusals (s : List ℕ) (t : Verdict → Bool) : Type 0 where
  pub few : t (verdict 5015 0 0 0) ≡ true
  pub version : t (verdict 5011 0 0 0) ≡ true
  pub field : t (verdict 5015 1 0 0) ≡ true
  pub long : longest_command < length s → t (verdict 7001 1 0 0) ≡ true
  pub application : t (verdict 3007 8 0 0) ≡ true
  pub code : t (verdict 3001 5 0 0) ≡ true
  pub bits : t (verdict 3008 4 0 0) ≡ true

-- the refusals for an AVP, at any place and of any name but for 7002, which has none: a test holds of each
pub record AvpRefusals (t : Verdict → Bool) : Type 0 where
  pub bits : (place vendor code : ℕ) → t (verdict 3009 place vendor code) ≡ true
  pub unsupported : (place vendor code : ℕ) → t (verdict 5001 place vendor code) ≡ true
  pub value : (place vendor code : ℕ) → t (verdict 5004 place vendor code) ≡ true
  pub missing : (place vendor code : ℕ) → t (verdict 5005 place vendor code) ≡ true
  pub unallowed : (place vendor code : ℕ) → t (verdict 5008 place vendor code) ≡ true
  pub many : (place vendor code : ℕ) → t (verdict 5009 place vendor code) ≡ true
  pub size : (place vendor code : ℕ) → t (verdict 5014 place vendor code) ≡ true
  pub full : (place : ℕ) → t (verdict 7002 place 0 0) ≡ true
  pub deep : (place vendor code : ℕ) → t (verdict 7003 place vendor code) ≡ true

pub both : (b : Bool) → cond b true true ≡ true
both true = refl
both false = refl

module _ (t : Verdict → Bool) where
  pub either : (b : Bool) (o p : Outcome) → meets t (cond b o p) ≡ cond b (meets t o) (meets t p)
  either true o p = refl
  either false o p = refl

  pub in_turn : (o p : Outcome) → meets t o ≡ true → meets t p ≡ true → meets t (or_else o p) ≡ true
  in_turn (Ok u) p f g = g
  in_turn (Err v) p f g = f

-- ---- the header

module _ (s : List ℕ) (t : Verdict → Bool) (r : HeaderRefusals s t) where
  length_meets : meets t (length_outcome s) ≡ true
  unfolding length_outcome meets
  length_meets =
      let size = length_field s in
      let few = ltb size header_size in
      let uneven = not (eqb (size % 4) 0) in
      let unequal = not (eqb size (length s)) in
      by_cases (few || uneven || unequal) (λ h. simp (either t, both, r.few, r.version, r.field, h))
      (λ h. by_cases (ltb longest_command size)
      (λ k.
      let same = eqb-true size (length s) (not-false _ (neither (few || uneven) unequal h).1) in
      let more = ltb-true longest_command size k in
      let long = r.long (rw same at more) in
      simp (either t, both, r.few, r.version, h, k, long))
      (λ k. simp (either t, both, r.few, r.version, h, k)))

  application_meets : meets t (application_outcome s) ≡ true
  unfolding application_outcome meets
  application_meets = simp (either t, both, r.application, r.code)

  flags_meets : (flags : ℕ) → meets t (flags_outcome flags) ≡ true
  unfolding flags_outcome meets
  flags_meets flags = simp (either t, both, r.bits)

  pub header_meets : meets t (header_outcome s) ≡ true
  unfolding header_outcome
  header_meets = in_turn t _ _ length_meets (in_turn t _ _ application_meets (flags_meets (command_flags s)))

-- ---- the walk

-- of a check that found a fault
abbrev fault_of : Checked → Outcome
fault_of (Fault v) = Err v
fault_of (Plain a) = no_refusal
fault_of (Group a) = no_refusal

module _ (t : Verdict → Bool) (r : AvpRefusals t) where
  framing_meets : (s : List ℕ) (at end : ℕ) → meets t (framing s at end) ≡ true
  unfolding framing meets
  framing_meets s at end = simp (either t, both, r.size)

  contents_meets : (s : List ℕ) (at : ℕ) (a : Avp) (d : Definition) → meets t (contents s at a d) ≡ true
  unfolding contents meets
  contents_meets s at a d = simp (either t, both, r.bits, r.unsupported, r.size, r.value, r.deep)

  settled_meets : (o : Outcome) (c : Checked) → meets t o ≡ true → meets t (fault_of c) ≡ true
      → meets t (fault_of (settled o c)) ≡ true
  settled_meets (Ok u) c f g = g
  settled_meets (Err v) c f g = f

  kind_meets : (b : Bool) (a : Avp) → meets t (fault_of (cond b (Group a) (Plain a))) ≡ true
  unfolding meets
  kind_meets true a = refl
  kind_meets false a = refl

  checked_meets : (dict : List Entry) (s : List ℕ) (w : Standing) → meets t (fault_of (checked dict s w)) ≡ true
  unfolding checked meets
  checked_meets dict s w =
      let at = w.at in
      let a = avp_at s at w.depth in
      by_cases (is_full w) (λ k. rw k (r.full at))
      (λ k. rw k
      (settled_meets (framing s at w.end) _ (framing_meets s at w.end)
      (settled_meets (contents s at a (defined dict a)) _ (contents_meets s at a (defined dict a))
      (kind_meets (is_group (defined dict a)) a))))

  after_meets : (xs : List Avp) (w : Walked) → meets t (stop_of w) ≡ true → meets t (stop_of (after xs w)) ≡ true
  after_meets xs (whole ys) f = f
  after_meets xs (stopped ys v) f = f

  and_meets : (w : Walked) (f : ℕ → Walked) → meets t (stop_of w) ≡ true
      → ((k : ℕ) → meets t (stop_of (f k)) ≡ true) → meets t (stop_of (and_then w f)) ≡ true
  and_meets (whole xs) f g h = after_meets xs (f (length xs)) (h (length xs))
  and_meets (stopped xs v) f g h = g

  -- every walk of a list is so
  abbrev pub AllMeet : (Standing → Walked) → Type 0
  AllMeet list = (w : Standing) → meets t (stop_of (list w)) ≡ true

  entered_meets : (list : Standing → Walked) (w : Standing) (c : Checked) → AllMeet list
      → meets t (fault_of c) ≡ true → meets t (stop_of (entered list w c)) ≡ true
  entered_meets list w (Fault v) h f = f
  entered_meets list w (Plain a) h f = f
  entered_meets list w (Group a) h f = after_meets (a ∷ []) (list (in_group w a)) (h (in_group w a))

  avp_meets : (list : Standing → Walked) (dict : List Entry) (s : List ℕ) → AllMeet list → AllMeet (walk_avp list dict s)
  unfolding walk_avp
  avp_meets list dict s h w = entered_meets list w (checked dict s w) h (checked_meets dict s w)

  pub walk_meets : (n : ℕ) (dict : List Entry) (s : List ℕ) → AllMeet (walk_list n dict s)
  unfolding meets
  walk_meets zero dict s w = rw (list_none dict s w)
  walk_meets (suc n) dict s w =
      let ih = walk_meets n dict s in
      by_cases (ltb w.at w.end)
      (λ h. rw (list_more n dict s w (ltb-true w.at w.end h))
      (and_meets (walk_avp (walk_list n dict s) dict s w) (λ k. walk_list n dict s (behind s w k))
      (avp_meets (walk_list n dict s) dict s ih w)
      (λ k. ih (behind s w k))))
      (λ h. rw (list_end (suc n) dict s w (ltb-false w.at w.end h)))
