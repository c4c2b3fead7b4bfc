-- What taking a fragment promises: the answer, and what the lent buffer and the lent log hold afterwards.
use Rattle.std.specs.Prelude.{◌≡◌, ℕ, ◌-◌, ◌≤◌, min, List, true, length, take}
use Rattle.std.proofs.lemmas.List.Edits.{sets}
use Rattle.rules.specs.Header.{longest_command}
use Rattle.reader.specs.Promise.{log_after}
use Rattle.fragments.specs.declared.State.{State}
use Rattle.fragments.specs.declared.Progress.{Progress}
use Rattle.fragments.specs.declared.Progress.TheVariants.{Unfinished, Command, Refusal}
use Rattle.fragments.specs.declared.Step.{Step}
use Rattle.fragments.specs.Link.{state, step, onward, taken_of, buffer_after, held_with, is_usable}

-- the log: written anew where a whole command was judged, else as it was
abbrev pub log_by : Progress → List ℕ → List ℕ → List ℕ
log_by Unfinished command before = before
log_by (Command v) command before = log_after command before
log_by (Refusal v) command before = before

-- what `take` gives
pub record Taken (st : State) (fragment before log : List ℕ) (r : Step) (after log' : List ℕ) : Type 0 where
  pub answer : r ≡ step st fragment before
  pub octets : after ≡ buffer_after st fragment before
  pub scratch : log' ≡ log_by r.progress (held_with st fragment before) log

-- ---- within the crate

-- octets of a fragment stored behind those held, up to a goal
pub record Filled (before : List ℕ) (held : ℕ) (fragment : List ℕ) (goal r : ℕ) (after : List ℕ) : Type 0 where
  pub count : r ≡ min (length fragment) (goal - held)
  pub octets : after ≡ sets before held (take r fragment)

-- a buffer with room for every command, and a number of octets held that can be gone on with
pub record CanTake (held : ℕ) (buffer : List ℕ) : Type 0 where
  pub room : longest_command ≤ length buffer
  pub usable : is_usable (state held 0) buffer ≡ true

-- what `take` gives then
pub record TakenFrom (held : ℕ) (fragment before log : List ℕ) (r : Step) (after log' : List ℕ) : Type 0 where
  pub answer : r ≡ onward (state held 0) fragment before
  pub octets : after ≡ sets before held (take (taken_of (state held 0) fragment before) fragment)
  pub scratch : log' ≡ log_by r.progress (held_with (state held 0) fragment before) log
