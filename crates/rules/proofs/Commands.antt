-- What a command that passes tells: its header passes, its walk is whole, and its lists pass.
use mathlib.Core.Path.{◌≡◌, refl, sym, ◌∙◌}
use Rattle.std.specs.Prelude.{Err}
use Rattle.rules.specs.Verdict.{no_refusal}
use mathlib.Core.List.{List}
use Prim.Native.Nat.{ℕ}
use Rattle.rules.specs.declared.Avp.{Avp}
use Rattle.rules.specs.declared.Verdict.{Verdict}
use Rattle.rules.specs.Header.{header_outcome}
use Rattle.rules.specs.Walk.{Walked, whole, stopped}
use Rattle.rules.specs.Command.{walk_of, lists_outcome, walked_outcome, command_outcome}
use Rattle.rules.proofs.Outcomes.{both_pass}
use Rattle.rules.proofs.Walk.{never}

pub record PassedCommand (s : List ℕ) : Type 0 where
  pub header : header_outcome s ≡ no_refusal
  pub avps : List Avp
  pub walk : walk_of s ≡ whole avps
  pub lists : lists_outcome s avps ≡ no_refusal

-- a walk that stopped is the answer
walk_stops : (s : List ℕ) (xs : List Avp) (v : Verdict) → walked_outcome s (stopped xs v) ≡ Err v
walk_stops s xs v = refl

whole_walk : (s : List ℕ) (w : Walked) → walked_outcome s w ≡ no_refusal
    → (xs : List Avp) × (w ≡ whole xs) × (lists_outcome s xs ≡ no_refusal)
whole_walk s (whole xs) e = (xs, refl, e)
whole_walk s (stopped xs v) e = never (sym (walk_stops s xs v) ∙ e)

pub passed_command : (s : List ℕ) → command_outcome s ≡ no_refusal → PassedCommand s
unfolding command_outcome
passed_command s e =
    let b = both_pass (header_outcome s) (walked_outcome s (walk_of s)) e in
    let w = whole_walk s (walk_of s) b.1 in
    record { header = b.0; avps = w.0; walk = w.1; lists = w.2 }
