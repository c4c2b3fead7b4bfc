-- The refusals of a link: their numbers, what a refused call leaves, and a run that has stopped. Above each theorem:
-- the words of request [7] that it meets, what carries it, and two wrong systems that it rules out.
use mathlib.Core.Path.{◌≡◌, refl, sym, ap, ◌∙◌}
use mathlib.Core.Bool.{Bool, true, false, cond, ◌||◌}
use mathlib.Core.Logic.{◌⊎◌, inr, ⊎_elim}
use mathlib.Core.List.{List}
use Prim.Native.Nat.{ℕ, ◌≤◌, ◌<◌}
use native.Mathlib.Omega.{arith}
use borrow.Author.Tests.{ltb-true, ltb-false}
use lib.Dec.{ltb, eqb}
use lib.ListN.{length}
use Rattle.rules.specs.declared.Verdict.{Verdict}
use Rattle.rules.specs.Verdict.{is_among}
use Rattle.rules.specs.Header.{header_size, length_field, longest_command}
use Rattle.rules.proofs.Walk.{by_cases}
use Rattle.fragments.specs.declared.State.{State}
use Rattle.fragments.specs.declared.Progress.{Progress}
use Rattle.fragments.specs.declared.Progress.TheVariants.{Unfinished, Command, Refusal}
use Rattle.fragments.specs.declared.Step.{Step}
use Rattle.fragments.specs.Link.{fresh, is_length, is_usable, goal, length_refusal, taken_of, onward, refused_call, step, buffer_after, link_numbers}
use Rattle.fragments.proofs.Usable.{fresh_usable, stopped_unusable}
use Rattle.fragments.proofs.Calls.{offered, step_7004, step_7009, step_onward, nothing_stored, step_unfinished, step_command, step_refusal}

-- ---- a test of what a call that goes on comes to, in its three ways

module _ (test : Progress → Bool) where
  -- that it holds of whatever a call that goes on comes to
  pub record HoldsOnward : Type 0 where
    pub none : test Unfinished ≡ true
    pub command : (v : Verdict) → test (Command v) ≡ true
    pub refusal : (n : ℕ) → test (Refusal (length_refusal n)) ≡ true

  module _ (all : HoldsOnward) (st : State) (fragment buffer : List ℕ) (room : longest_command ≤ length buffer)
      (usable : is_usable st buffer ≡ true)
    where
      abbrev here : List ℕ
      here = offered st fragment buffer

      by_answer : (t : Step) → step st fragment buffer ≡ t → test t.progress ≡ true
          → test (step st fragment buffer).progress ≡ true
      by_answer t is e = ap (λ (t : Step). test t.progress) is ∙ e

      onward_meets : test (step st fragment buffer).progress ≡ true
      onward_meets =
          by_cases (ltb (length here) (goal here))
          (λ less. by_answer _ (step_unfinished st fragment buffer room usable (ltb-true _ _ less)) all.none)
          (λ more.
          let reached : goal here ≤ length here = ltb-false _ _ more in
          by_cases (is_length (length_field here))
          (λ e. by_answer _ (step_command st fragment buffer room usable reached e) (all.command _))
          (λ e. by_answer _ (step_refusal st fragment buffer room usable reached e) (all.refusal (length_field here))))

-- ---- the numbers

abbrev in_table : Progress → Bool
in_table Unfinished = true
in_table (Command v) = true
in_table (Refusal v) = is_among link_numbers v.number

onward_in_table : HoldsOnward in_table
unfolding link_numbers
onward_in_table =
    record {
      none = refl;
      command = λ v. refl;
      refusal = λ n. by_cases (ltb n header_size) (λ e. rw e) (λ e. rw e);
    }

step_in_table : (st : State) (fragment buffer : List ℕ) → in_table (step st fragment buffer).progress ≡ true
unfolding link_numbers
step_in_table st fragment buffer =
    by_cases (ltb (length buffer) longest_command)
    (λ few. ap (λ (t : Step). in_table t.progress) (step_7004 st fragment buffer (ltb-true _ _ few)))
    (λ room.
    let r : longest_command ≤ length buffer = ltb-false _ _ room in
    by_cases (is_usable st buffer) (λ e. onward_meets in_table onward_in_table st fragment buffer r e)
    (λ e. ap (λ (t : Step). in_table t.progress) (step_7009 st fragment buffer r e)))

-- "Refusals ...: 7004 ...; then 7009 ...; then, at the fourth octet, ... 5015 at 1 ... and 7001 at 1": no other number.
-- Carried by onward_meets: a call that goes on is unfinished, a command or a refusal of its length field.
-- Ruled out: a call refused with a number that says something else elsewhere, as 7006 does of a draft; a refusal
-- numbered 0, which looks like an acceptance.
pub refusal_numbers : (st : State) (fragment buffer : List ℕ) (v : Verdict)
    → (step st fragment buffer).progress ≡ Refusal v → is_among link_numbers v.number ≡ true
refusal_numbers st fragment buffer v e = sym (ap in_table e) ∙ step_in_table st fragment buffer

-- ---- the first two

abbrev of_call : ℕ → Bool
of_call n = eqb n 7004 || eqb n 7009

abbrev not_of_call : Progress → Bool
not_of_call Unfinished = true
not_of_call (Command v) = true
not_of_call (Refusal v) = cond (of_call v.number) false true

onward_not_of_call : HoldsOnward not_of_call
onward_not_of_call =
    record {
      none = refl;
      command = λ v. refl;
      refusal = λ n. by_cases (ltb n header_size) (λ e. rw e) (λ e. rw e);
    }

of_call_lem : (n : ℕ) → (n ≡ 7004) ⊎ (n ≡ 7009) → of_call n ≡ true
of_call_lem n = ⊎_elim (λ e. rw e) (λ e. rw e)

-- a call that goes on is never refused so
goes_on_unrefused : (st : State) (fragment buffer : List ℕ) (v : Verdict)
    → (step st fragment buffer).progress ≡ Refusal v → (v.number ≡ 7004) ⊎ (v.number ≡ 7009)
    → longest_command ≤ length buffer → is_usable st buffer ≡ true
    → false ≡ true
goes_on_unrefused st fragment buffer v e n room u =
    let other : not_of_call (Refusal v) ≡ true =
    ap not_of_call (sym e) ∙ onward_meets not_of_call onward_not_of_call st fragment buffer room u in
    rw (of_call_lem v.number n) at other

kept_by : (number : ℕ) (st : State) (fragment buffer : List ℕ) → step st fragment buffer ≡ refused_call number st
    → ((step st fragment buffer).taken ≡ 0)
    × (((step st fragment buffer).state ≡ st) × (buffer_after st fragment buffer ≡ buffer))
kept_by number st fragment buffer is =
    let t = ap (λ (t : Step). t.taken) is in
    (t, (ap (λ (t : Step). t.state) is, nothing_stored st fragment buffer t))

-- "Refusals, the first two taking nothing and keeping the state", and "stores only the octets it took".
-- Carried by goes_on_unrefused.
-- Ruled out: a call that stops the run, or loses what is held, because it was lent too short a buffer once; one that
-- stores octets of the fragment before it looks at the state.
pub refused_calls : (st : State) (fragment buffer : List ℕ) (v : Verdict)
    → (step st fragment buffer).progress ≡ Refusal v → (v.number ≡ 7004) ⊎ (v.number ≡ 7009)
    → ((step st fragment buffer).taken ≡ 0)
    × (((step st fragment buffer).state ≡ st) × (buffer_after st fragment buffer ≡ buffer))
refused_calls st fragment buffer v e n =
    by_cases (ltb (length buffer) longest_command)
    (λ few. kept_by 7004 st fragment buffer (step_7004 st fragment buffer (ltb-true _ _ few)))
    (λ room.
    let r : longest_command ≤ length buffer = ltb-false _ _ room in
    by_cases (is_usable st buffer)
    (λ u.
    let f = goes_on_unrefused st fragment buffer v e n r u in
    let z : ◌≡◌ {A = ℕ} 0 1 = cc in
    absurd (omega arith))
    (λ u. kept_by 7009 st fragment buffer (step_7009 st fragment buffer r u)))

abbrev number_in : Progress → ℕ
number_in Unfinished = 0
number_in (Command v) = 0
number_in (Refusal v) = v.number

-- "then 7009, also for a state whose held octets ...": for such a state alone, so for none that a run hands back before
-- it stops.
-- Carried by goes_on_unrefused.
-- Ruled out: a reader that tells 7009 for an empty fragment, or now and then in a run that goes on, which the verdicts
-- "7009 apart" do not show.
pub refused_7009 : (st : State) (fragment buffer : List ℕ) (v : Verdict) → (step st fragment buffer).progress ≡ Refusal v
    → v.number ≡ 7009 → is_usable st buffer ≡ false
refused_7009 st fragment buffer v e n =
    by_cases (is_usable st buffer)
    (λ u.
    by_cases (ltb (length buffer) longest_command)
    (λ few.
    let m : v.number ≡ 7004 =
    ap number_in (sym e) ∙ ap (λ (t : Step). number_in t.progress) (step_7004 st fragment buffer (ltb-true _ _ few)) in
    absurd (omega arith))
    (λ room.
    let f = goes_on_unrefused st fragment buffer v e (inr n) (ltb-false _ _ room) u in
    let z : ◌≡◌ {A = ℕ} 0 1 = cc in
    absurd (omega arith)))
    (λ u. u)

-- ---- a run that has stopped

-- "After a refusal at the fourth octet 7009 is due until the caller starts afresh": whatever is held and offered.
-- Carried by step_7009.
-- Ruled out: a reader that goes on behind a refused length field, where no command's start is known; one that tells the
-- refusal at the fourth octet again for each fragment.
pub stopped_until_afresh : (st : State) (fragment buffer : List ℕ) → 0 < st.stopped → longest_command ≤ length buffer
    → step st fragment buffer ≡ refused_call 7009 st
stopped_until_afresh st fragment buffer h room =
    step_7009 st fragment buffer room (stopped_unusable st buffer (λ z. omega arith))

-- "the caller starts afresh, which forgets the rest": what the buffer holds counts for nothing then.
-- Carried by step_onward.
-- Ruled out: a fresh start that reads a length field of octets left in the buffer; one that is still refused with 7009.
pub afresh_forgets : (fragment buffer buffer' : List ℕ) → longest_command ≤ length buffer
    → longest_command ≤ length buffer' → step fresh fragment buffer ≡ step fresh fragment buffer'
unfolding onward taken_of
afresh_forgets fragment buffer buffer' room room' =
    step_onward fresh fragment buffer room (fresh_usable buffer)
    ∙ sym (step_onward fresh fragment buffer' room' (fresh_usable buffer'))
