-- What ends a call, and the command that it found. Above each theorem: the words of request [7] that it meets, what
-- carries it, and two wrong systems that it rules out.
use mathlib.Core.Path.{◌≡◌, refl, sym, ap, ◌∙◌}
use mathlib.Core.Bool.{Bool, true, false, ◌||◌}
use mathlib.Core.List.{List}
use Prim.Native.Nat.{ℕ, ◌+◌, ◌-◌, ◌≤◌}
use native.Mathlib.Omega.{arith}
use borrow.Author.Tests.{ltb-true, ltb-false}
use lib.Dec.{ltb, eqb}
use lib.ListN.{length, take}
use lib.Seq.{length-take-le}
use Rattle.rules.specs.declared.Verdict.{Verdict}
use Rattle.rules.specs.Command.{command_verdict}
use Rattle.rules.specs.Header.{length_field, longest_command}
use Rattle.rules.proofs.Walk.{by_cases}
use Rattle.fragments.specs.declared.State.{State}
use Rattle.fragments.specs.declared.Progress.{Progress}
use Rattle.fragments.specs.declared.Progress.TheVariants.{Unfinished, Command, Refusal}
use Rattle.fragments.specs.declared.Step.{Step}
use Rattle.fragments.specs.Link.{state, field_end, is_length, is_usable, goal, length_refusal, held_with, refused_call, step_by, step, buffer_after}
use Rattle.fragments.proofs.Goals.{goal_bounds, goal_field}
use Rattle.fragments.proofs.Usable.{stopped_unusable}
use Rattle.fragments.proofs.Calls.{goal_over, held_after, held_goal, offered, step_7004, step_7009, step_unfinished, step_command, step_refusal}

-- ---- a claim about a call, in its five ways

module _ (P : Step → Type 0) (st : State) (fragment buffer : List ℕ) where
  abbrev here : List ℕ
  here = offered st fragment buffer

  pub record Ways : Type 0 where
    pub short : P (refused_call 7004 st)
    pub off : P (refused_call 7009 st)
    pub unfinished : (held : ℕ) → P (step_by (length fragment) held Unfinished)
    pub refusal : (taken : ℕ) → P (step_by taken field_end (Refusal (length_refusal (length_field here))))
    pub command : (taken : ℕ) (c : List ℕ) → P (step_by taken 0 (Command (command_verdict c)))

  pub by_ways : Ways → P (step st fragment buffer)
  by_ways w =
      by_cases (ltb (length buffer) longest_command)
      (λ few. rw (step_7004 st fragment buffer (ltb-true _ _ few)) w.short)
      (λ room.
      let r : longest_command ≤ length buffer = ltb-false _ _ room in
      by_cases (is_usable st buffer)
      (λ u.
      by_cases (ltb (length here) (goal here))
      (λ less. rw (step_unfinished st fragment buffer r u (ltb-true _ _ less)) (w.unfinished _))
      (λ more.
      let reached : goal here ≤ length here = ltb-false _ _ more in
      by_cases (is_length (length_field here))
      (λ e. rw (step_command st fragment buffer r u reached e) (w.command _ _))
      (λ e. rw (step_refusal st fragment buffer r u reached e) (w.refusal _))))
      (λ u. rw (step_7009 st fragment buffer r u) w.off))

abbrev is_unfinished : Progress → Bool
is_unfinished Unfinished = true
is_unfinished (Command v) = false
is_unfinished (Refusal v) = false

no : {A : Type 0} → false ≡ true → A
no f = let z : ◌≡◌ {A = ℕ} 0 1 = cc in absurd (omega arith)

-- "takes a fragment up to its end, the end of one whole command or a refusal": unfinished where all is taken.
-- Carried by by_ways.
-- Ruled out: a reader that takes an octet a call, or to the fourth one only, and leaves the others to be offered again;
-- one that says unfinished at a command's end and tells the verdict in the next call.
pub unfinished_takes_all : (st : State) (fragment buffer : List ℕ) → (step st fragment buffer).progress ≡ Unfinished
    → (step st fragment buffer).taken ≡ length fragment
unfinished_takes_all st fragment buffer =
    by_ways (λ (t : Step). t.progress ≡ Unfinished → t.taken ≡ length fragment) st fragment buffer
    (record {
      short = λ e. no (ap is_unfinished e);
      off = λ e. no (ap is_unfinished e);
      unfinished = λ held e. refl;
      refusal = λ taken e. no (ap is_unfinished e);
      command = λ taken c e. no (ap is_unfinished e);
    })

abbrev of_run : Progress → Bool
of_run Unfinished = false
of_run (Command v) = false
of_run (Refusal v) = eqb v.number 5015 || eqb v.number 7001

-- "After a refusal at the fourth octet 7009 is due until the caller starts afresh", whatever becomes of the buffer.
-- Carried by by_ways: such a refusal leaves a state that has stopped.
-- Ruled out: a reader that never stops and leaves 7009 to the refused length field in the buffer; one that goes on once
-- other octets stand there.
pub refusal_until_afresh : (st : State) (fragment buffer fragment' buffer' : List ℕ)
    → of_run (step st fragment buffer).progress ≡ true → longest_command ≤ length buffer'
    → step (step st fragment buffer).state fragment' buffer' ≡ refused_call 7009 (step st fragment buffer).state
refusal_until_afresh st fragment buffer fragment' buffer' e room =
    by_ways (λ (t : Step). of_run t.progress ≡ true → step t.state fragment' buffer' ≡ refused_call 7009 t.state)
    st fragment buffer
    (record {
      short = λ e. no e;
      off = λ e. no e;
      unfinished = λ held e. no e;
      refusal =
          λ taken e. step_7009 (state field_end 1) fragment' buffer' room
          (stopped_unusable (state field_end 1) buffer' (λ z. omega arith));
      command = λ taken c e. no e;
    }) e

abbrev is_command : Progress → Bool
is_command Unfinished = false
is_command (Command v) = true
is_command (Refusal v) = false

abbrev verdict_in : Progress → Verdict → Verdict
verdict_in Unfinished w = w
verdict_in (Command v) w = v
verdict_in (Refusal v) w = w

-- a call that found no command
none_found : (st : State) (fragment buffer : List ℕ) (v : Verdict) (t : Step) → step st fragment buffer ≡ t
    → is_command t.progress ≡ false → (step st fragment buffer).progress ≡ Command v → false ≡ true
none_found st fragment buffer v t is n e =
    sym n ∙ sym (ap (λ (t : Step). is_command t.progress) is) ∙ ap is_command e

-- the command that a call found: the first octets of the buffer, as many as were held before and taken
abbrev pub found : State → List ℕ → List ℕ → List ℕ
found st fragment buffer = take (st.held + (step st fragment buffer).taken) (buffer_after st fragment buffer)

-- "Demand 2 reads per command found": the verdict is the reader's of the octets that stand at the buffer's start, so
-- that its entries give their record; they are as many as the length field says.
-- Carried by held_after: the octets held with those taken stand there.
-- Ruled out: a verdict on octets that the caller cannot read any more; one on octets behind the command too.
pub command_stands : (st : State) (fragment buffer : List ℕ) (v : Verdict)
    → (step st fragment buffer).progress ≡ Command v
    → (v ≡ command_verdict (found st fragment buffer))
    × (length (found st fragment buffer) ≡ length_field (offered st fragment buffer))
command_stands st fragment buffer v e =
    by_cases (ltb (length buffer) longest_command)
    (λ few. no (none_found st fragment buffer v _ (step_7004 st fragment buffer (ltb-true _ _ few)) refl e))
    (λ room.
    let r : longest_command ≤ length buffer = ltb-false _ _ room in
    by_cases (is_usable st buffer)
    (λ u.
    let all = offered st fragment buffer in
    by_cases (ltb (length all) (goal all))
    (λ less. no (none_found st fragment buffer v _ (step_unfinished st fragment buffer r u (ltb-true _ _ less)) refl e))
    (λ more.
    let reached : goal all ≤ length all = ltb-false _ _ more in
    by_cases (is_length (length_field all))
    (λ f.
    let is = step_command st fragment buffer r u reached f in
    let b = (goal_bounds all).0 in
    let g = goal_field all (omega arith) f in
    let o = goal_over st fragment buffer r u in
    let t : (step st fragment buffer).taken ≡ length_field all - st.held = ap (λ (t : Step). t.taken) is in
    let n : st.held + (step st fragment buffer).taken ≡ length_field all = omega arith in
    let h : held_with st fragment buffer ≡ take (length_field all) all =
    held_goal st fragment buffer r u reached ∙ ap (λ (n : ℕ). take n all) g in
    let l : length (take (length_field all) all) ≡ length_field all = length-take-le _ all (omega arith) in
    let c : found st fragment buffer ≡ take (length_field all) all =
    ap (λ (n : ℕ). take n (buffer_after st fragment buffer)) (n ∙ sym l ∙ ap length (sym h))
    ∙ held_after st fragment buffer r u ∙ h in (
      ap (λ (p : Progress). verdict_in p v) (sym e ∙ ap (λ (t : Step). t.progress) is) ∙ ap command_verdict (sym c),
      ap length c ∙ l,
    ))
    (λ f. no (none_found st fragment buffer v _ (step_refusal st fragment buffer r u reached f) refl e))))
    (λ u. no (none_found st fragment buffer v _ (step_7009 st fragment buffer r u) refl e)))
