-- `boundary::link::numbered` meets its contract.
use mathlib.Core.Path.{◌≡◌, ap, ◌∙◌}
use Prim.Native.Nat.{ℕ}
use Rattle.rules.specs.declared.Verdict.{Verdict}
use Rattle.boundary.specs.declared.link.LinkStep.{LinkStep}
use Rattle.boundary.specs.Links.{progress_number, progress_verdict, link_step}
use Rattle.boundary.proofs.link.numbered.Goals as goal
use Rattle.boundary.proofs.link.numbered.Goals.{in-Unfinished, in-Command, in-Refusal}

pub returns : goal.returns
unfolding link_step
returns c =
    let s = c.args.step in
    let answer : ℕ × Verdict → LinkStep =
    λ p. record { taken = s.taken; progress = p.0; verdict = p.1; state = s.state } in
    let told : c.match-step.progress ≡ (progress_number s.progress, progress_verdict s.progress) =
    elim c.match-step.branch [
      | in-Unfinished w ↦ w.progress-is ∙ rw (w.in-Unfinished.is, w.no_verdict.ensures)
      | in-Command w ↦ w.progress-is ∙ rw w.in-Command.is
      | in-Refusal w ↦ w.progress-is ∙ rw w.in-Refusal.is
    ] in
    ap answer told
