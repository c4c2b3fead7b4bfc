-- `reader::record::avps_of` meets its contract. The places before i hold the AVPs of the log, those from i on are
-- blank.
use mathlib.Core.Path.{◌≡◌, sym, ap, ◌∙◌}
use mathlib.Core.List.{List}
use Prim.Native.Nat.{ℕ}
use native.Mathlib.Omega.{arith}
use lib.ListN.{set}
use Rattle.rules.specs.declared.Avp.{Avp}
use Rattle.rules.specs.Search.{avp_in}
use Rattle.walk_log.specs.Log.{avps_in}
use Rattle.walk_log.proofs.Log.{avps_at_lem, length-avps_in}
use Rattle.reader.proofs.Places.{filled, filled_next, filled_all}
use Rattle.reader.proofs.record.avps_of.Goals as goal

pub loop-i-preserved : goal.loop-i-preserved
loop-i-preserved c =
    let l = c.loop-i in
    let log = c.args.log.now in
    let n = c.args.count in
    let xs = avps_in log n in
    let few = length-avps_in log n c.requires in
    let here : avp_in xs l.i ≡ c.get.result = avps_at_lem log n l.i c.requires c.loop-i-test.true ∙ sym c.get.ensures in
    ap (λ (ys : List Avp). set ys l.i c.get.result) l.invariant
    ∙ ap (λ (a : Avp). set (filled xs l.i) l.i a) (sym here)
    ∙ filled_next xs l.i (omega (arith, few, c.loop-i-test.true)) (omega (arith, few, c.requires))

pub returns : goal.returns
returns c =
    let l = c.loop-i in
    let log = c.args.log.now in
    let n = c.args.count in
    let e : l.i ≡ n = omega arith in
    l.invariant ∙ ap (λ (k : ℕ). filled (avps_in log n) k) e ∙ filled_all (avps_in log n) n (length-avps_in log n c.requires)
