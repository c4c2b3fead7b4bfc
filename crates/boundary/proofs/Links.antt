-- The laws of a link's answer as numbers.
use mathlib.Core.Path.{◌≡◌, ap, ◌∙◌}
use mathlib.Core.List.{List}
use Prim.Native.Nat.{ℕ}
use Rattle.fragments.specs.declared.State.{State}
use Rattle.fragments.specs.declared.Step.{Step}
use Rattle.fragments.specs.Link.{held_with}
use Rattle.fragments.specs.Promise.{log_by, Taken}
use Rattle.boundary.specs.declared.link.LinkStep.{LinkStep}
use Rattle.boundary.specs.Links.{link_step, IsTaken}

pub taken_numbered : (st : State) (f b log : List ℕ) (s : Step) (after log' : List ℕ) → Taken st f b log s after log'
    → (r : LinkStep) → r ≡ link_step s → IsTaken st f b log r after log'
taken_numbered st f b log s after log' t r e =
    record {
      answer = e ∙ ap link_step t.answer;
      octets = t.octets;
      scratch = t.scratch ∙ ap (λ (x : Step). log_by x.progress (held_with st f b) log) t.answer;
    }
