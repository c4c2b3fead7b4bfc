-- `canonical::canonical` meets its contract.
use native.Mathlib.Omega.{arith}
use Rattle.canonical.proofs.Calls.{from_refused, from_written}
use Rattle.canonical.proofs.canonical.Goals as goal

pub returns-then-verdict-ne0 : goal.returns-then-verdict-ne0
returns-then-verdict-ne0 c =
    let a = c.args in
    from_refused a.s.now a.out.now c.read.result c.read.ensures (λ z. omega arith)

pub returns : goal.returns
returns c =
    let a = c.args in
    from_written a.s.now a.out.now c.read.result c.read.ensures
    (λ i. omega (arith, c.type_inv.s i)) (omega arith) _ _ c.write.ensures
