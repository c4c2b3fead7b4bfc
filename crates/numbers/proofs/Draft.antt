-- Laws of the draft that numbers and octets stand for: numbers that are no flags are 7006 whatever the room, and the
-- numbers of every record stand for that record.
use mathlib.Core.Path.{◌≡◌, refl, sym, ap, ◌∙◌}
use mathlib.Core.Bool.{Bool, true, false}
use mathlib.Core.List.{List, [], ◌∷◌, ◌++◌}
use Prim.Native.Nat.{ℕ, ◌+◌}
use native.Mathlib.Omega.{arith}
use lib.ListN.{length, get_or, drop}
use lib.Seq.{drop-drop, get_or-drop}
use Rattle.rules.specs.declared.Avp.{Avp}
use Rattle.rules.specs.declared.Record.{Record}
use Rattle.rules.specs.Walk.{most_avps}
use Rattle.rules.specs.Verdict.{refused}
use Rattle.rules.specs.Draft.{draft_of, is_well_formed}
use Rattle.rules.specs.Writer.{own_outcome, draft_outcome}
use Rattle.rules.proofs.Walk.{by_cases}
use Rattle.walk_log.specs.Log.{bit}
use Rattle.numbers.specs.Numbers.{head_of, head_numbers, avp_numbers, avps_numbers, numbers_of, numbered_place, numbered_record}
use Rattle.numbers.specs.Flags.{is_flag, head_flags_fit, avp_flags_fit, flags_fit_from, flags_fit}
use Rattle.numbers.specs.Draft.{overfull_record, numbered_draft}
use Rattle.numbers.proofs.Numbers.{record_back}

-- ---- flags that do not fit

overfull_malformed : (s : List ℕ) → is_well_formed (draft_of overfull_record s) ≡ false
unfolding is_well_formed overfull_record
overfull_malformed s = refl

module _ (numbers s : List ℕ) where
  pub draft_fit : flags_fit numbers ≡ true → numbered_draft numbers s ≡ draft_of (numbered_record numbers) s
  unfolding numbered_draft
  draft_fit e = rw e

  pub draft_unfit : flags_fit numbers ≡ false → is_well_formed (numbered_draft numbers s) ≡ false
  unfolding numbered_draft
  draft_unfit e = rw e (overfull_malformed s)

  pub unfit_7006 : flags_fit numbers ≡ false
      → (room : ℕ) → draft_outcome (numbered_draft numbers s) room ≡ refused 7006 0 0 0
  unfolding draft_outcome own_outcome
  unfit_7006 e room = rw (draft_unfit e)

  -- a well-formed draft is the numbered record over the octets
  pub draft_formed : is_well_formed (numbered_draft numbers s) ≡ true → numbered_draft numbers s ≡ draft_of (numbered_record numbers) s
  draft_formed e =
      by_cases (flags_fit numbers) draft_fit
      (λ f. let z : ◌≡◌ {A = ℕ} 0 1 = cc (draft_unfit f) in absurd (omega arith))

-- ---- the numbers of a record

bit_fits : (b : Bool) → is_flag (bit b) ≡ true
bit_fits true = refl
bit_fits false = refl

avps_fit : (numbers : List ℕ) (xs : List Avp) (i : ℕ) → drop (numbered_place i) numbers ≡ avps_numbers xs
    → flags_fit_from numbers i (length xs) ≡ true
unfolding flags_fit_from avp_flags_fit avps_numbers
avps_fit numbers [] i e = refl
avps_fit numbers (a ∷ xs) i e =
    let at = numbered_place i in
    let here : (k : ℕ) → get_or numbers (at + k) 0 ≡ get_or (avp_numbers a ++ avps_numbers xs) k 0 =
    λ k. sym (get_or-drop at numbers k 0) ∙ ap (λ (l : List ℕ). get_or l k 0) e in
    let n : numbered_place (i + 1) ≡ at + 7 = omega arith in
    let others : drop (numbered_place (i + 1)) numbers ≡ avps_numbers xs =
    ap (λ (k : ℕ). drop k numbers) n ∙ sym (drop-drop 7 at numbers) ∙ ap (λ (l : List ℕ). drop 7 l) e in
    rw (here 3, here 4, bit_fits a.m, bit_fits a.p) (avps_fit numbers xs (i + 1) others)

module _ (r : Record) (full : length r.avps ≡ most_avps) where
  pub record_fits : flags_fit (numbers_of r) ≡ true
  unfolding flags_fit head_flags_fit numbers_of
  record_fits =
      let numbers = head_numbers (head_of r) r.count ++ avps_numbers r.avps in
      let positions : flags_fit_from numbers 0 most_avps ≡ true =
      ap (flags_fit_from numbers 0) (sym full) ∙ avps_fit numbers r.avps 0 refl in
      rw (bit_fits r.r, bit_fits r.p, bit_fits r.e, bit_fits r.t) positions

  -- what is read and written over the boundary is the draft that demand 2 is about
  pub numbered_draft_lem : (s : List ℕ) → numbered_draft (numbers_of r) s ≡ draft_of r s
  numbered_draft_lem s =
      draft_fit (numbers_of r) s record_fits ∙ ap (λ (x : Record). draft_of x s) (record_back r full)
