-- `numbers::get` meets its contract.
use mathlib.Core.Path.{sym, ◌∙◌}
use native.Mathlib.Omega.{arith}
use Rattle.numbers.proofs.Numbers.{avp_out, all_zero, avp_part}
use Rattle.numbers.proofs.get.Goals as goal

pub returns-then-position-ge-MOST_AVPS : goal.returns-then-position-ge-MOST_AVPS
returns-then-position-ge-MOST_AVPS c =
    all_zero c.default.result c.default.ensures
    ∙ sym (avp_out c.args.numbers.now c.args.position c.told-numbers c.if-position-ge-MOST_AVPS.true)

pub returns : goal.returns
returns c =
    avp_part c.args.numbers.now c.args.position _ (omega arith)
