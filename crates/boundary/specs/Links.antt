-- What the boundary hands back for a fragment of a link: an answer's progress as a number, and its verdict.
use Rattle.std.specs.Prelude.{◌≡◌, ℕ, List}
use Rattle.rules.specs.declared.Verdict.{Verdict}
use Rattle.rules.specs.Verdict.{verdict}
use Rattle.fragments.specs.declared.State.{State}
use Rattle.fragments.specs.declared.Progress.{Progress}
use Rattle.fragments.specs.declared.Progress.TheVariants.{Unfinished, Command, Refusal}
use Rattle.fragments.specs.declared.Step.{Step}
use Rattle.fragments.specs.Link.{step, buffer_after, held_with}
use Rattle.fragments.specs.Promise.{log_by}
use Rattle.boundary.specs.declared.link.LinkStep.{LinkStep}

-- the number of a progress
abbrev pub progress_number : Progress → ℕ
progress_number Unfinished = 0
progress_number (Command v) = 1
progress_number (Refusal v) = 2

-- the verdict beside an unfinished command: a number that is in no table, so that no caller takes it for an acceptance
abbrev pub no_verdict : Verdict
no_verdict = verdict 4294967295 0 0 0

abbrev pub progress_verdict : Progress → Verdict
progress_verdict Unfinished = no_verdict
progress_verdict (Command v) = v
progress_verdict (Refusal v) = v

unfoldable pub link_step : Step → LinkStep
link_step s =
    record {
      taken = s.taken;
      progress = progress_number s.progress;
      verdict = progress_verdict s.progress;
      state = s.state;
    }

-- what `talazumir_link_take` gives
pub record IsTaken (st : State) (fragment before log : List ℕ) (r : LinkStep) (after log' : List ℕ) : Type 0 where
  pub answer : r ≡ link_step (step st fragment before)
  pub octets : after ≡ buffer_after st fragment before
  pub scratch : log' ≡ log_by (step st fragment before).progress (held_with st fragment before) log
