-- Laws of one call: what it takes of a fragment, what that comes to, and what the buffer holds afterwards. The octets
-- offered are those held, then the fragment.
use mathlib.Core.Path.{◌≡◌, sym, ap, ◌∙◌}
use mathlib.Core.Bool.{true, false}
use mathlib.Core.List.{List, ◌++◌}
use Prim.Native.Nat.{ℕ, ◌+◌, ◌-◌, ◌≤◌, ◌<◌}
use native.Mathlib.Omega.{arith}
use borrow.Author.Tests.{lt-ltb, le-ltb, ltb-true, ltb-false}
use lib.Dec.{ltb, eqb}
use lib.ListN.{length, take, length-append}
use lib.Seq.{take-append-add, take-length, length-take-le, sets, length-sets}
use Rattle.rules.specs.Header.{length_field, longest_command}
use Rattle.rules.specs.Command.{command_verdict}
use Rattle.rules.proofs.Walk.{by_cases}
use Rattle.fragments.specs.declared.State.{State}
use Rattle.fragments.specs.declared.Progress.{Progress}
use Rattle.fragments.specs.declared.Progress.TheVariants.{Unfinished, Command, Refusal}
use Rattle.fragments.specs.declared.Step.{Step}
use Rattle.fragments.specs.Link.{state, fresh, field_end, is_length, is_usable, goal, length_refusal, progress_of, state_after, held_in, taken_of, held_with, onward, refused_call, step, buffer_after}
use Rattle.fragments.proofs.Goals.{goal_field, goal_refused, goal_bounds, goal_above}
use Rattle.fragments.proofs.Usable.{usable_short, short_usable, fresh_usable, stopped_unusable}
use Rattle.fragments.proofs.Fronts.{progress_short, front_long, front_command, front_refusal}
use Rattle.fragments.proofs.Stored.{start_long, stored_start}

abbrev pub offered : State → List ℕ → List ℕ → List ℕ
offered st fragment buffer = held_in st buffer ++ fragment

-- ---- how a call is answered

module _ (st : State) (fragment buffer : List ℕ) where
  pub step_7004 : length buffer < longest_command → step st fragment buffer ≡ refused_call 7004 st
  unfolding step
  step_7004 few = rw (lt-ltb (length buffer) longest_command few)

  pub step_7009 : longest_command ≤ length buffer → is_usable st buffer ≡ false
      → step st fragment buffer ≡ refused_call 7009 st
  unfolding step
  step_7009 room e = rw (le-ltb (length buffer) longest_command room, e)

  pub step_onward : longest_command ≤ length buffer → is_usable st buffer ≡ true
      → step st fragment buffer ≡ onward st fragment buffer
  unfolding step
  step_onward room e = rw (le-ltb (length buffer) longest_command room, e)

  -- what a call takes lies in the fragment
  pub taken_within : (step st fragment buffer).taken ≤ length fragment
  unfolding onward taken_of
  taken_within =
      by_cases (ltb (length buffer) longest_command)
      (λ few. rw (step_7004 (ltb-true _ _ few)) (omega arith))
      (λ room. by_cases (is_usable st buffer) (λ e. rw (step_onward (ltb-false _ _ room) e) (omega arith))
      (λ e. rw (step_7009 (ltb-false _ _ room) e) (omega arith)))

  -- where nothing is taken, nothing is stored
  pub nothing_stored : (step st fragment buffer).taken ≡ 0 → buffer_after st fragment buffer ≡ buffer
  nothing_stored e = ap (λ (n : ℕ). sets buffer st.held (take n fragment)) e

  -- a buffer keeps its length
  pub buffer_long : length (buffer_after st fragment buffer) ≡ length buffer
  buffer_long = length-sets buffer st.held (take (step st fragment buffer).taken fragment)

-- ---- calls that go on

module _ (st : State) (fragment buffer : List ℕ) (room : longest_command ≤ length buffer)
    (usable : is_usable st buffer ≡ true)
  where
    abbrev all : List ℕ
    all = offered st fragment buffer

    abbrev held : List ℕ
    held = held_in st buffer

    held_many : length held ≡ st.held
    held_many = (usable_short st buffer room usable).many

    pub offered_long : length all ≡ st.held + length fragment
    offered_long = length-append held fragment ∙ ap (λ (n : ℕ). n + length fragment) held_many

    pub goal_over : st.held < goal all
    goal_over =
        let l = held_many in
        let s = (usable_short st buffer room usable).below in
        let a = goal_above held fragment (omega arith) in
        omega arith

    pub held_below : st.held < longest_command
    held_below =
        let g = goal_over in
        let b = (goal_bounds all).1 in
        omega arith

    pub taken_is : (step st fragment buffer).taken ≡ taken_of st fragment buffer
    unfolding onward
    taken_is = ap (λ (a : Step). a.taken) (step_onward st fragment buffer room usable)

    -- no octet behind the goal is taken
    taken_to_goal : st.held + taken_of st fragment buffer ≤ goal all
    unfolding taken_of
    taken_to_goal = let g = goal_over in omega arith

    -- what is taken lies in the fragment and fits into the buffer
    pub taken_in_fragment : taken_of st fragment buffer ≤ length fragment
    unfolding taken_of
    taken_in_fragment = omega arith

    taken_in_buffer : st.held + taken_of st fragment buffer ≤ length buffer
    taken_in_buffer =
        let t = taken_to_goal in
        let b = (goal_bounds all).1 in
        omega arith

    -- the octets held with those taken stand at the buffer's start
    pub held_after : take (length (held_with st fragment buffer)) (buffer_after st fragment buffer)
        ≡ held_with st fragment buffer
    held_after =
        let t = taken_of st fragment buffer in
        let s = held_with st fragment buffer in
        ap (λ (n : ℕ). take (length s) (sets buffer st.held (take n fragment))) taken_is
        ∙ ap (λ (n : ℕ). take n (sets buffer st.held (take t fragment)))
        (start_long st.held fragment buffer t taken_in_fragment taken_in_buffer)
        ∙ stored_start st.held fragment buffer t taken_in_fragment taken_in_buffer

    -- a call that goes on, by what it takes and what it then holds
    onward_is : (n : ℕ) (s : List ℕ) (p : Progress) → taken_of st fragment buffer ≡ n → held_with st fragment buffer ≡ s
        → progress_of s ≡ p
        → step st fragment buffer ≡ record { taken = n; progress = p; state = state_after (length s) p }
    unfolding onward
    onward_is n s p t h e = step_onward st fragment buffer room usable ∙ rw (h, t, e)

    -- octets that stay short of their goal: the whole fragment is taken and held
    module _ (less : length all < goal all) where
      pub taken_all : taken_of st fragment buffer ≡ length fragment
      unfolding taken_of
      taken_all = let l = offered_long in omega arith

      held_all : held_with st fragment buffer ≡ all
      held_all =
          ap (λ (n : ℕ). held ++ take n fragment) taken_all
          ∙ ap (λ (l : List ℕ). held ++ l) (take-length fragment)

      pub step_unfinished : step st fragment buffer
          ≡ record { taken = length fragment; progress = Unfinished; state = state (length all) 0 }
      step_unfinished = onward_is (length fragment) all Unfinished taken_all held_all (progress_short all less)

      pub unfinished_held : take (length all) (buffer_after st fragment buffer) ≡ all
      unfinished_held =
          ap (λ (s : List ℕ). take (length s) (buffer_after st fragment buffer)) (sym held_all) ∙ held_after ∙ held_all

      -- and the state can be gone on with
      pub unfinished_usable : is_usable (state (length all) 0) (buffer_after st fragment buffer) ≡ true
      unfinished_usable =
          let l = buffer_long st fragment buffer in
          let b = (goal_bounds all).1 in
          short_usable all (buffer_after st fragment buffer) unfinished_held (omega arith) less

    -- octets that reach it: the fragment is taken up to it
    module _ (reached : goal all ≤ length all) where
      pub taken_goal : taken_of st fragment buffer ≡ goal all - st.held
      unfolding taken_of
      taken_goal =
          let l = offered_long in
          let g = goal_over in
          omega arith

      pub held_goal : held_with st fragment buffer ≡ take (goal all) all
      held_goal =
          let g = goal_over in
          let l = held_many in
          let n : length held + (goal all - st.held) ≡ goal all = omega arith in
          ap (λ (n : ℕ). held ++ take n fragment) taken_goal
          ∙ sym (take-append-add held fragment (goal all - st.held))
          ∙ ap (λ (n : ℕ). take n all) n

      -- the command is exactly as many octets as its length field says
      pub step_command : is_length (length_field all) ≡ true
          → step st fragment buffer
          ≡ record {
            taken = length_field all - st.held;
            progress = Command (command_verdict (take (length_field all) all));
            state = fresh;
          }
      step_command e =
          let b = (goal_bounds all).0 in
          let g = goal_field all (omega arith) e in
          onward_is (length_field all - st.held) (take (length_field all) all)
          (Command (command_verdict (take (length_field all) all)))
          (taken_goal ∙ ap (λ (n : ℕ). n - st.held) g) (held_goal ∙ ap (λ (n : ℕ). take n all) g)
          (ap (λ (n : ℕ). progress_of (take n all)) (sym g)
          ∙ front_command all reached e
          ∙ ap (λ (n : ℕ). Command (command_verdict (take n all))) g)

      -- the run stops, with its first four octets held
      pub step_refusal : is_length (length_field all) ≡ false
          → step st fragment buffer
          ≡ record {
            taken = field_end - st.held;
            progress = Refusal (length_refusal (length_field all));
            state = state field_end 1;
          }
      step_refusal e =
          let b = (goal_bounds all).0 in
          let g = goal_refused all (omega arith) e in
          let l = front_long all reached in
          onward_is (field_end - st.held) (take (goal all) all) (Refusal (length_refusal (length_field all)))
          (taken_goal ∙ ap (λ (n : ℕ). n - st.held) g) held_goal (front_refusal all reached e)
          ∙ rw (l, g)

      pub refusal_held : is_length (length_field all) ≡ false
          → take field_end (buffer_after st fragment buffer) ≡ take field_end all
      refusal_held e =
          let b = (goal_bounds all).0 in
          let g = goal_refused all (omega arith) e in
          let h : held_with st fragment buffer ≡ take field_end all = held_goal ∙ ap (λ (n : ℕ). take n all) g in
          let l : length (take field_end all) ≡ field_end = length-take-le field_end all (omega arith) in
          ap (λ (n : ℕ). take n (buffer_after st fragment buffer)) (sym l ∙ ap length (sym h)) ∙ held_after ∙ h

    -- ---- every call that goes on

    -- the state can be gone on with until the run stops
    pub state_usable : is_usable (step st fragment buffer).state (buffer_after st fragment buffer)
        ≡ eqb (step st fragment buffer).state.stopped 0
    state_usable =
        let after = buffer_after st fragment buffer in
        let by : (t : Step) → step st fragment buffer ≡ t → is_usable t.state after ≡ eqb t.state.stopped 0
        → is_usable (step st fragment buffer).state after ≡ eqb (step st fragment buffer).state.stopped 0 =
        λ t is e.
        ap (λ (t : Step). is_usable t.state after) is ∙ e ∙ ap (λ (t : Step). eqb t.state.stopped 0) (sym is) in
        by_cases (ltb (length all) (goal all))
        (λ less. let h = ltb-true _ _ less in by _ (step_unfinished h) (unfinished_usable h))
        (λ more.
        let h = ltb-false _ _ more in
        by_cases (is_length (length_field all)) (λ e. by _ (step_command h e) (fresh_usable after))
        (λ e. by _ (step_refusal h e) (stopped_unusable (state field_end 1) after (λ z. omega arith))))

    -- where octets of the fragment are left, some are taken
    pub taken_some : (step st fragment buffer).taken < length fragment → 1 ≤ (step st fragment buffer).taken
    unfolding taken_of
    taken_some =
        let g = goal_over in
        let t = taken_is in
        λ h. omega arith
