-- `octets::padded_length` meets its contract: its answer is the padded length, which follows the rule of 02 [4].
use mathlib.Core.Path.{◌≡◌}
use Prim.Native.Nat.{◌*◌}
use native.Mathlib.Omega.{arith}
use Rattle.rules.specs.Octets.{padded}
use Rattle.rules.proofs.Octets.{padded_rule}
use Rattle.octets.proofs.padded_length.Goals as goal

pub returns : goal.returns
unfolding padded
returns c =
    let rule = padded_rule c.args.length in
    let e : c.div_ceil.result * 4 ≡ padded c.args.length = omega arith in
    (e, omega arith, rw e rule)
