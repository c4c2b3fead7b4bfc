-- `octets::number_at` meets its contract, by the law over the width.
use native.Mathlib.Omega.{arith}
use Rattle.rules.proofs.Octets.{no_number_lem}
use Rattle.octets.proofs.Readings.{read_next, part_long, read_whole}
use Rattle.octets.proofs.number_at.Goals as goal
use Rattle.octets.proofs.number_at.Goals.{then-s-via-then-s, then-s-via-else-s+then-s-at}

pub returns-then-s : goal.returns-then-s
returns-then-s g c =
    no_number_lem g.row.WIDTH c.args.s.now c.args.at
    (elim c.then-s.branch [ then-s-via-then-s w ↦ omega arith | then-s-via-else-s+then-s-at w ↦ omega arith ])

pub loop-octet-preserved : goal.loop-octet-preserved
loop-octet-preserved g c =
    let long = part_long g.row.WIDTH c.args.s.now c.args.at (omega arith) in
    read_next _ _ _ _ c.loop-octet.invariant c.from.ensures (omega arith) (omega arith)

pub returns : goal.returns
returns g c =
    read_whole g.row.WIDTH c.args.s.now c.args.at (omega arith) _ _ (omega arith) c.loop-octet.invariant
