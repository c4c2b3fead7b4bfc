-- What a call promises, answer and lent memory, by its answer as defined: a refused call, and one that goes on.
use mathlib.Core.Path.{◌≡◌, refl, sym, ap, ◌∙◌}
use mathlib.Core.Bool.{true}
use mathlib.Core.List.{List, ◌++◌}
use Prim.Native.Nat.{ℕ, ◌+◌, ◌≤◌, ◌<◌}
use native.Mathlib.Omega.{arith}
use lib.ListN.{length, take}
use lib.Seq.{sets}
use Rattle.rules.specs.Header.{longest_command}
use Rattle.fragments.specs.declared.State.{State}
use Rattle.fragments.specs.declared.Step.{Step}
use Rattle.fragments.specs.declared.Progress.TheVariants.{Unfinished}
use Rattle.fragments.specs.Link.{state, step_by, is_usable, goal, taken_of, onward, refused_call, step}
use Rattle.fragments.specs.Promise.{log_by, CanTake, TakenFrom, Taken}
use Rattle.fragments.proofs.Usable.{usable_short}
use Rattle.fragments.proofs.Calls.{offered, offered_long, taken_is, step_onward, step_unfinished}

-- ---- what `take` gives

-- a refused call leaves buffer and log as they were
pub taken_refused : (number : ℕ) (st : State) (fragment buffer : List ℕ)
    → step st fragment buffer ≡ refused_call number st → (log : List ℕ) (r : Step) → r ≡ refused_call number st
    → Taken st fragment buffer log r buffer log
taken_refused number st fragment buffer e log r is =
    record { answer = is ∙ sym e; octets = rw e; scratch = rw is }

module _ (st : State) (fragment buffer : List ℕ) (room : longest_command ≤ length buffer)
    (usable : is_usable st buffer ≡ true)
  where
    -- only the number of octets held counts in a state that can be gone on with
    pub can-take : CanTake st.held buffer
    can-take =
        let going = (usable_short st buffer room usable).goes_on in
        record {
          room = room;
          usable = ap (λ (n : ℕ). is_usable (state st.held n) buffer) (sym going) ∙ usable;
        }

    pub taken_onward : (log : List ℕ) (r : Step) (after log' : List ℕ)
        → TakenFrom st.held fragment buffer log r after log' → Taken st fragment buffer log r after log'
    unfolding onward taken_of
    taken_onward log r after log' t =
        let is = step_onward st fragment buffer room usable in
        record { answer = t.answer ∙ sym is; octets = t.octets ∙ rw is; scratch = t.scratch }

-- ---- what it gives where octets are taken

module _ (held : ℕ) (fragment buffer : List ℕ) (can : CanTake held buffer) where
  abbrev st : State
  st = state held 0

  module _ (a : Step) (is : step st fragment buffer ≡ a) (r : Step) (same : r ≡ a) (after log log' : List ℕ)
      (octets : after ≡ sets buffer held (take a.taken fragment))
      (scratch : log' ≡ log_by a.progress (take held buffer ++ take a.taken fragment) log)
    where
      count : a.taken ≡ taken_of st fragment buffer
      count = ap (λ (t : Step). t.taken) (sym is) ∙ taken_is st fragment buffer can.room can.usable

      pub taken_from : TakenFrom held fragment buffer log r after log'
      taken_from =
          record {
            answer = same ∙ sym is ∙ step_onward st fragment buffer can.room can.usable;
            octets = octets ∙ ap (λ (n : ℕ). sets buffer held (take n fragment)) count;
            scratch = scratch ∙ rw (same, count);
          }

  -- a fragment that ends short of the goal: all of it is taken
  pub all_taken : (n : ℕ) → n ≡ length fragment → held + n < goal (offered st fragment buffer)
      → (r : Step) → r ≡ step_by n (held + n) Unfinished
      → (after : List ℕ) → after ≡ sets buffer held (take n fragment)
      → (log : List ℕ) → TakenFrom held fragment buffer log r after log
  all_taken n e less r is after octets log =
      let long = offered_long st fragment buffer can.room can.usable in
      let answer =
      step_unfinished st fragment buffer can.room can.usable (omega arith)
      ∙ ap (λ (k : ℕ). record { taken = length fragment; progress = Unfinished; state = state k 0 }) long
      ∙ ap (λ (k : ℕ). step_by k (held + k) Unfinished) (sym e) in
      taken_from (step_by n (held + n) Unfinished) answer r is after log log octets refl
