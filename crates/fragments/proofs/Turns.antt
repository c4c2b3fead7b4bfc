-- The three ways that a call in the middle of a run can go: unfinished, a command, a refusal. Each leaves what the run
-- uncut has there, and the calls that follow what it has behind; so cut_from, for every list of calls.
use mathlib.Core.Path.{◌≡◌, refl, sym, ap, ◌∙◌, subst}
use mathlib.Core.Bool.{true, false}
use mathlib.Core.List.{List, [], ◌∷◌, ◌++◌, append-nil}
use Prim.Native.Nat.{ℕ, ◌+◌, ◌-◌, ◌≤◌, ◌<◌}
use native.Mathlib.Omega.{arith}
use borrow.Author.Tests.{ltb-true, ltb-false}
use lib.Dec.{ltb}
use lib.ListN.{length, take, drop}
use lib.Seq.{take-append-le, drop-append_seam, drop-append-add}
use Rattle.rules.specs.declared.Verdict.{Verdict}
use Rattle.rules.specs.Header.{header_size, length_field, longest_command}
use Rattle.rules.specs.Command.{command_verdict}
use Rattle.rules.proofs.Walk.{by_cases}
use Rattle.fragments.specs.declared.State.{State}
use Rattle.fragments.specs.declared.Progress.TheVariants.{Unfinished, Command, Refusal}
use Rattle.fragments.specs.declared.Step.{Step}
use Rattle.fragments.specs.Link.{state, fresh, field_end, is_length, is_usable, goal, length_refusal, held_in}
use Rattle.fragments.specs.Run.{Call, answer, left, told, verdicts_of, is_whole, verdicts_uncut, rest_uncut, taken_uncut}
use Rattle.fragments.proofs.Goals.{field_first, goal_field, goal_refused, goal_bounds}
use Rattle.fragments.proofs.Usable.{fresh_usable, stopped_unusable}
use Rattle.fragments.proofs.Calls.{offered_long, goal_over, step_unfinished, unfinished_held, unfinished_usable, step_command, step_refusal, refusal_held}
use Rattle.fragments.proofs.Uncut.{is_whole_lem, verdicts_first, rest_first, taken_first, verdicts_stopped, rest_stopped, taken_stopped}
use Rattle.fragments.proofs.Follows.{Follows, held_from, Nothing, stopped_calls}
use Rattle.fragments.proofs.Middle.{AsUncutFrom, Claim, no_calls, Turn, held_at, offered_at, held_many, all_is, all_long, run_long, left_room, next}

-- a refusal at the fourth octet is told
refusal_told : (n : ℕ) → told (Refusal (length_refusal n)) ≡ length_refusal n ∷ []
refusal_told n = by_cases (ltb n header_size) (λ e. rw e) (λ e. rw e)

module _ (c : Call) (cs : List Call) (run : List ℕ) (turn : Turn c cs run) where
  abbrev held : List ℕ
  held = held_at c

  abbrev here : List ℕ
  here = offered_at c

  abbrev later : List ℕ
  later = turn.begins.later

  -- unfinished: what was offered is held
  module _ (less : length here < goal here) where
    abbrev unfinished : Step
    unfinished = record { taken = length c.fragment; progress = Unfinished; state = state (length here) 0 }

    is_unfinished_lem : answer c ≡ unfinished
    is_unfinished_lem = step_unfinished c.state c.fragment c.buffer turn.room turn.usable less

    holds_here : held_in (state (length here) 0) (left c) ≡ here
    holds_here = unfinished_held c.state c.fragment c.buffer turn.room turn.usable less

    unfinished_next : AsUncutFrom here later cs
    unfinished_next =
        let l = run_long c cs run turn in
        let u = unfinished_usable c.state c.fragment c.buffer turn.room turn.usable less in
        let rest = ap (drop (length c.fragment)) turn.begins.all ∙ drop-append_seam c.fragment later in
        subst (λ (l : List ℕ). AsUncutFrom l later cs) holds_here
        (next c cs run turn unfinished is_unfinished_lem refl u later rest (omega arith))

    unfinished_then : AsUncutFrom held run (c ∷ cs)
    unfinished_then =
        let n = unfinished_next in
        let t = ap (λ (t : Step). t.taken) is_unfinished_lem in
        let k = n.taken in
        let l = offered_long c.state c.fragment c.buffer turn.room turn.usable in
        let h = held_many c cs run turn in
        let a = ap taken_uncut (all_is c cs run turn) in
        record {
          verdicts =
              ap (λ (t : Step). told t.progress ++ verdicts_of cs) is_unfinished_lem
              ∙ n.verdicts
              ∙ ap verdicts_uncut (sym (all_is c cs run turn));
          taken = omega arith;
          rest =
              ap (λ (t : Step). held_from (held_in t.state (left c)) cs) is_unfinished_lem
              ∙ ap (λ (l : List ℕ). held_from l cs) holds_here
              ∙ n.rest
              ∙ ap rest_uncut (sym (all_is c cs run turn));
        }

  -- the goal is reached: it lies above the octets held
  module _ (reached : goal here ≤ length here) where
    abbrev size : ℕ
    size = length_field here

    over : c.state.held < goal here
    over = goal_over c.state c.fragment c.buffer turn.room turn.usable

    four : field_end ≤ length here
    four = let b = (goal_bounds here).0 in omega arith

    all_field : length_field (held ++ run) ≡ size
    all_field = ap length_field (all_is c cs run turn) ∙ field_first here later four

    -- a command: it is the first one uncut, and the calls that follow start afresh behind it
    module _ (e : is_length size ≡ true) where
      abbrev command : Step
      command =
          record {
            taken = size - c.state.held;
            progress = Command (command_verdict (take size here));
            state = fresh;
          }

      is_command_lem : answer c ≡ command
      is_command_lem = step_command c.state c.fragment c.buffer turn.room turn.usable reached e

      goal_is : goal here ≡ size
      goal_is = goal_field here four e

      abbrev behind : List ℕ
      behind = drop (size - c.state.held) run

      command_next : AsUncutFrom [] behind cs
      command_next =
          let g = goal_is in
          let h = offered_long c.state c.fragment c.buffer turn.room turn.usable in
          let l = run_long c cs run turn in
          next c cs run turn command is_command_lem refl (fresh_usable (left c)) behind refl (omega arith)

      all_whole : is_whole (held ++ run) ≡ true
      all_whole =
          let g = goal_is in
          let l = all_long c cs run turn in
          let f = all_field in
          is_whole_lem (held ++ run) (rw all_field e) (omega arith)

      all_first : take (length_field (held ++ run)) (held ++ run) ≡ take size here
      all_first =
          let g = goal_is in
          ap (λ (n : ℕ). take n (held ++ run)) all_field
          ∙ ap (take size) (all_is c cs run turn)
          ∙ take-append-le size here later (omega arith)

      all_behind : drop (length_field (held ++ run)) (held ++ run) ≡ behind
      all_behind =
          let g = goal_is in
          let o = over in
          let h = held_many c cs run turn in
          let n : size ≡ length held + (size - c.state.held) = omega arith in
          ap (λ (n : ℕ). drop n (held ++ run)) (all_field ∙ n) ∙ drop-append-add held run (size - c.state.held)

      all_verdicts : verdicts_uncut (held ++ run) ≡ command_verdict (take size here) ∷ verdicts_uncut behind
      all_verdicts = verdicts_first (held ++ run) all_whole ∙ rw (all_first, all_behind)

      command_then : AsUncutFrom held run (c ∷ cs)
      command_then =
          let n = command_next in
          let t = ap (λ (t : Step). t.taken) is_command_lem in
          let k = n.taken in
          let g = goal_is in
          let o = over in
          let h = held_many c cs run turn in
          let f = all_field in
          let u = taken_first (held ++ run) all_whole in
          let b = ap taken_uncut all_behind in
          record {
            verdicts =
                ap (λ (t : Step). told t.progress ++ verdicts_of cs) is_command_lem
                ∙ ap (λ (vs : List Verdict). command_verdict (take size here) ∷ vs) n.verdicts
                ∙ sym all_verdicts;
            taken = omega arith;
            rest =
                ap (λ (t : Step). held_from (held_in t.state (left c)) cs) is_command_lem
                ∙ n.rest
                ∙ ap rest_uncut (sym all_behind)
                ∙ sym (rest_first (held ++ run) all_whole);
          }

    -- a refusal: the run stops there uncut, and nothing more comes of the calls that follow
    module _ (e : is_length size ≡ false) where
      abbrev refusal : Step
      refusal =
          record {
            taken = field_end - c.state.held;
            progress = Refusal (length_refusal size);
            state = state field_end 1;
          }

      is_refusal : answer c ≡ refusal
      is_refusal = step_refusal c.state c.fragment c.buffer turn.room turn.usable reached e

      refusal_next : Nothing (held_in (state field_end 1) (left c)) cs
      refusal_next =
          stopped_calls (state field_end 1) (left c) cs (left_room c cs run turn)
          (stopped_unusable (state field_end 1) (left c) (λ z. omega arith))
          (subst (λ (t : Step). Follows t.state (left c) cs) is_refusal turn.follows)

      all_four : field_end ≤ length (held ++ run)
      all_four =
          let l = all_long c cs run turn in
          let f = four in
          omega arith

      refusal_then : AsUncutFrom held run (c ∷ cs)
      refusal_then =
          let n = refusal_next in
          let t = ap (λ (t : Step). t.taken) is_refusal in
          let k = n.taken in
          let g = goal_refused here four e in
          let o = over in
          let h = held_many c cs run turn in
          let e' : is_length (length_field (held ++ run)) ≡ false = rw all_field e in
          let u = taken_stopped (held ++ run) all_four e' in
          record {
            verdicts =
                ap (λ (t : Step). told t.progress ++ verdicts_of cs) is_refusal
                ∙ ap (λ (vs : List Verdict). told (Refusal (length_refusal size)) ++ vs) n.verdicts
                ∙ append-nil (told (Refusal (length_refusal size)))
                ∙ refusal_told size
                ∙ ap (λ (n : ℕ). length_refusal n ∷ []) (sym all_field)
                ∙ sym (verdicts_stopped (held ++ run) all_four e');
            taken = omega arith;
            rest =
                ap (λ (t : Step). held_from (held_in t.state (left c)) cs) is_refusal
                ∙ n.rest
                ∙ refusal_held c.state c.fragment c.buffer turn.room turn.usable reached e
                ∙ sym (take-append-le field_end here later four)
                ∙ ap (take field_end) (sym (all_is c cs run turn))
                ∙ sym (rest_stopped (held ++ run) all_four e');
          }

  call_then : AsUncutFrom held run (c ∷ cs)
  call_then =
      by_cases (ltb (length here) (goal here)) (λ less. unfinished_then (ltb-true _ _ less))
      (λ more.
      let reached : goal here ≤ length here = ltb-false _ _ more in
      by_cases (is_length (length_field here)) (command_then reached) (refusal_then reached))

-- ---- every list of calls

pub cut_from : (calls : List Call) → Claim calls
cut_from [] st buffer run room usable f o end = no_calls st buffer run room usable f o end
cut_from (c ∷ cs) st buffer run room usable f o end =
    let s = f.0 in
    let b = f.1.0 in
    let r : longest_command ≤ length c.buffer = rw b room in
    let u : is_usable c.state c.buffer ≡ true = rw (s, b) usable in
    subst (λ (l : List ℕ). AsUncutFrom l run (c ∷ cs)) (ap (λ (t : State). held_in t c.buffer) s ∙ ap (held_in st) b)
    (call_then c cs run
    (record {
      room = r;
      usable = u;
      follows = f.1.1;
      begins = o.0;
      offers = o.1;
      ends = end;
      claim = cut_from cs;
    }))
