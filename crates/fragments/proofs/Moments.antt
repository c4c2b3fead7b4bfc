-- A run at every moment: what its calls have come to so far is what the octets taken so far give uncut. Calls are cut
-- off behind what they take, which leaves their answers; so they are a cutting of these octets.
use mathlib.Core.Path.{◌≡◌, refl, sym, ap, ◌∙◌, subst}
use mathlib.Core.Bool.{true}
use mathlib.Core.Logic.{inl}
use mathlib.Core.List.{List, [], ◌∷◌, ◌++◌, map}
use Prim.Native.Nat.{ℕ, ◌+◌, ◌-◌, ◌≤◌, min}
use native.Mathlib.Omega.{arith}
use borrow.Author.Tests.{ltb-true, ltb-false}
use lib.Dec.{ltb}
use lib.ListN.{length, take, drop, length-append, length-drop}
use lib.Seq.{sets, take-length, take-take, take-add, take-append-le, length-take-le, drop-append_seam}
use Rattle.rules.specs.declared.Verdict.{Verdict}
use Rattle.rules.specs.Header.{longest_command}
use Rattle.rules.proofs.Walk.{by_cases}
use Rattle.fragments.specs.declared.State.{State}
use Rattle.fragments.specs.declared.Step.{Step}
use Rattle.fragments.specs.Link.{is_usable, goal, progress_of, step_by, held_in, taken_of, onward, step}
use Rattle.fragments.specs.Run.{Call, answer, left, told, verdicts_of, taken_by, rest_of, StartsAfresh, KeepsBuffer, LendsEnough, HandsBack, OffersAgain, AsUncut}
use Rattle.fragments.proofs.Fronts.{front_goal}
use Rattle.fragments.proofs.Calls.{offered, taken_is, taken_within, taken_in_fragment, taken_all, taken_goal, held_goal, step_7004, step_7009, step_onward}
use Rattle.fragments.proofs.Cuttings.{cutting_as_uncut}

-- ---- a call whose fragment ends with what is taken of it

module _ (st : State) (fragment buffer : List ℕ) where
  module _ (room : longest_command ≤ length buffer) (usable : is_usable st buffer ≡ true) where
    abbrev t : ℕ
    t = taken_of st fragment buffer

    abbrev all : List ℕ
    all = offered st fragment buffer

    t_long : length (take t fragment) ≡ t
    t_long = length-take-le t fragment (taken_in_fragment st fragment buffer room usable)

    -- its goal is no nearer
    same_taken : taken_of st (take t fragment) buffer ≡ t
    unfolding taken_of
    same_taken =
        by_cases (ltb (length all) (goal all))
        (λ less.
        let n = taken_all st fragment buffer room usable (ltb-true _ _ less) in
        let f : take t fragment ≡ fragment = ap (λ (n : ℕ). take n fragment) n ∙ take-length fragment in
        ap (λ (l : List ℕ). min (length l) (goal (held_in st buffer ++ l) - st.held)) f)
        (λ more.
        let r : goal all ≤ length all = ltb-false _ _ more in
        let n = taken_goal st fragment buffer room usable r in
        let g : goal (held_in st buffer ++ take t fragment) ≡ goal all =
        ap goal (held_goal st fragment buffer room usable r) ∙ front_goal all r in
        let l = t_long in
        omega arith)

    same_onward : onward st (take t fragment) buffer ≡ onward st fragment buffer
    unfolding onward
    same_onward =
        ap
        (λ (n : ℕ).
        let s = held_in st buffer ++ take n (take t fragment) in step_by n (length s) (progress_of s)) same_taken
        ∙ ap (λ (l : List ℕ). let s = held_in st buffer ++ l in step_by t (length s) (progress_of s))
        (take-take t t fragment (omega arith))

    cut_onward : step st (take (step st fragment buffer).taken fragment) buffer ≡ step st fragment buffer
    cut_onward =
        ap (λ (n : ℕ). step st (take n fragment) buffer) (taken_is st fragment buffer room usable)
        ∙ step_onward st (take t fragment) buffer room usable
        ∙ same_onward
        ∙ sym (step_onward st fragment buffer room usable)

  pub cut_step : step st (take (step st fragment buffer).taken fragment) buffer ≡ step st fragment buffer
  cut_step =
      let cut = take (step st fragment buffer).taken fragment in
      by_cases (ltb (length buffer) longest_command)
      (λ few. let h = ltb-true _ _ few in step_7004 st cut buffer h ∙ sym (step_7004 st fragment buffer h))
      (λ more.
      let room : longest_command ≤ length buffer = ltb-false _ _ more in
      by_cases (is_usable st buffer) (cut_onward room)
      (λ u. step_7009 st cut buffer room u ∙ sym (step_7009 st fragment buffer room u)))

-- ---- calls

abbrev cut_call : Call → Call
cut_call c =
    record { state = c.state; fragment = take (answer c).taken c.fragment; buffer = c.buffer }

cut_answer : (c : Call) → answer (cut_call c) ≡ answer c
cut_answer c = cut_step c.state c.fragment c.buffer

cut_left : (c : Call) → left (cut_call c) ≡ left c
cut_left c =
    let t = (answer c).taken in
    ap (λ (a : Step). sets c.buffer c.state.held (take a.taken (take t c.fragment))) (cut_answer c)
    ∙ ap (sets c.buffer c.state.held) (take-take t t c.fragment (omega arith))

abbrev cut_calls : List Call → List Call
cut_calls calls = map cut_call calls

-- what they come to stays
same_verdicts : (calls : List Call) → verdicts_of (cut_calls calls) ≡ verdicts_of calls
same_verdicts [] = refl
same_verdicts (c ∷ cs) =
    ap (λ (a : Step). told a.progress ++ verdicts_of (cut_calls cs)) (cut_answer c)
    ∙ ap (λ (vs : List Verdict). told (answer c).progress ++ vs) (same_verdicts cs)

same_total : (calls : List Call) → taken_by (cut_calls calls) ≡ taken_by calls
same_total [] = refl
same_total (c ∷ cs) =
    let a = ap (λ (a : Step). a.taken) (cut_answer c) in
    let n = same_total cs in
    omega arith

same_rest : (calls : List Call) → rest_of (cut_calls calls) ≡ rest_of calls
same_rest [] = refl
same_rest (c ∷ []) =
    ap (λ (a : Step). held_in a.state (left (cut_call c))) (cut_answer c) ∙ ap (held_in (answer c).state) (cut_left c)
same_rest (c ∷ d ∷ cs) = same_rest (d ∷ cs)

-- and the caller's part is kept
cut_starts : (calls : List Call) → StartsAfresh calls → StartsAfresh (cut_calls calls)
cut_starts [] h = tt
cut_starts (c ∷ cs) h = h

cut_keeps : (calls : List Call) → KeepsBuffer calls → KeepsBuffer (cut_calls calls)
cut_keeps [] h = tt
cut_keeps (c ∷ []) h = tt
cut_keeps (c ∷ d ∷ cs) h = (h.0 ∙ sym (cut_left c), cut_keeps (d ∷ cs) h.1)

cut_lends : (calls : List Call) → LendsEnough calls → LendsEnough (cut_calls calls)
cut_lends [] h = tt
cut_lends (c ∷ cs) h = (h.0, cut_lends cs h.1)

cut_hands : (calls : List Call) → HandsBack calls → HandsBack (cut_calls calls)
cut_hands [] h = tt
cut_hands (c ∷ []) h = tt
cut_hands (c ∷ d ∷ cs) h =
    (h.0 ∙ ap (λ (a : Step). a.state) (sym (cut_answer c)), cut_hands (d ∷ cs) h.1)

-- ---- of the octets taken

taken_in_run : (run : List ℕ) (calls : List Call) → OffersAgain run calls → taken_by calls ≤ length run
taken_in_run run [] o = omega arith
taken_in_run run (c ∷ cs) o =
    let w = taken_within c.state c.fragment c.buffer in
    let l = ap length o.0.all ∙ length-append c.fragment o.0.later in
    let n = taken_in_run (drop (answer c).taken run) cs o.1 in
    let d = length-drop (answer c).taken run in
    omega arith

cut_offers : (run : List ℕ) (calls : List Call) → OffersAgain run calls
    → OffersAgain (take (taken_by calls) run) (cut_calls calls)
cut_offers run [] o = tt
cut_offers run (c ∷ cs) o =
    let t = (answer c).taken in
    let w = taken_within c.state c.fragment c.buffer in
    let front = take t c.fragment in
    let later = take (taken_by cs) (drop t run) in
    let f : take t run ≡ front = ap (take t) o.0.all ∙ take-append-le t c.fragment o.0.later w in
    let a : take (t + taken_by cs) run ≡ front ++ later =
    take-add t (taken_by cs) run ∙ ap (λ (l : List ℕ). l ++ later) f in
    let n : (answer (cut_call c)).taken ≡ length front =
    ap (λ (a : Step). a.taken) (cut_answer c) ∙ sym (length-take-le t c.fragment w) in
    let d : drop (answer (cut_call c)).taken (take (t + taken_by cs) run) ≡ later =
    ap (drop (answer (cut_call c)).taken) a
    ∙ ap (λ (n : ℕ). drop n (front ++ later)) n
    ∙ drop-append_seam front later in (
      record { later = later; all = a },
      subst (λ (l : List ℕ). OffersAgain l (cut_calls cs)) (sym d) (cut_offers (drop t run) cs o.1),
    )

-- "Provided that the caller starts afresh, ..., every cutting of one run ... gives the same verdicts ..., octets taken
-- in total and unfinished rest as the run uncut": at every moment, with the octets taken so far as the run, also where
-- more of it was offered. "A shorter run is unfinished."
-- Carried by cutting_as_uncut: the calls, cut off behind what they take, are a cutting of these octets.
-- Ruled out: a reader that tells a command's verdict some calls after its last octet, or before it; one that is right
-- about a run only once all of it is taken.
pub at_every_moment : (run : List ℕ) (calls : List Call) → StartsAfresh calls → KeepsBuffer calls → LendsEnough calls
    → HandsBack calls → OffersAgain run calls → AsUncut (take (taken_by calls) run) calls
at_every_moment run calls starts keeps lends hands offers =
    let so_far = take (taken_by calls) run in
    let a =
    cutting_as_uncut so_far (cut_calls calls)
    (record {
      starts_afresh = cut_starts calls starts;
      keeps_buffer = cut_keeps calls keeps;
      lends_enough = cut_lends calls lends;
      hands_back = cut_hands calls hands;
      offers_again = cut_offers run calls offers;
      to_the_end =
          inl (same_total calls ∙ sym (length-take-le (taken_by calls) run (taken_in_run run calls offers)));
    }) in
    record {
      verdicts = sym (same_verdicts calls) ∙ a.verdicts;
      taken = sym (same_total calls) ∙ a.taken;
      rest = sym (same_rest calls) ∙ a.rest;
    }
