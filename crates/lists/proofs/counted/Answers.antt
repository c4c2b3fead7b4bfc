-- `lists::counted` meets its contract. The invariant: the places before `k` are counted.
use borrow.Author.Rules.{rules}
use mathlib.Core.Path.{◌≡◌}
use native.Mathlib.Omega.{arith}
use mathlib.Core.Bool.{cond}
use lib.Dec.{eqb}
use lib.ListN.{length}
use Rattle.lists.proofs.Counts.{counted_next}
use Rattle.lists.proofs.counted.Goals as goal

pub loop-k-preserved : goal.loop-k-preserved
loop-k-preserved c =
    let s = c.args in
    let l = c.loop-k in
    let full : length s.counts ≡ 24 = search rules in
    let gain : c.from.result ≡ cond (eqb l.k s.row) 1 0 = search rules in
    rw (l.invariant, gain) (counted_next s.counts s.row l.k (omega arith))
