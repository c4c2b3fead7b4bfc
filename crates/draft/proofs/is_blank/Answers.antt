-- `draft::is_blank` meets its contract.
use mathlib.Core.Path.{◌≡◌, refl, ◌∙◌}
use mathlib.Core.Bool.{Bool, true, false, not, beq}
use Rattle.std.proofs.Math.Bool.{and_assoc}
use Rattle.rules.specs.Draft.{is_blank}
use Rattle.draft.proofs.is_blank.Goals as goal

is_unset : (b : Bool) → beq b false ≡ not b
is_unset true = refl
is_unset false = refl

pub returns : goal.returns
unfolding is_blank
returns c =
    let a = c.args.a in
    let d = c.default.ensures in
    c.eq.ensures
    ∙ simp and_assoc (rw (d.0, d.1.0, d.1.1.0, d.1.1.1.0, d.1.1.1.1.0, d.1.1.1.1.1.0, d.1.1.1.1.1.1, is_unset a.m, is_unset a.p))
