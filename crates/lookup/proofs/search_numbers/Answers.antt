-- `lookup::search_numbers` meets its contract. So far the answer is that of the search among the AVPs before a position.
use native.Mathlib.Omega.{arith}
use Prim.Native.Nat.{◌<◌, min}
use Rattle.rules.specs.Walk.{most_avps}
use Rattle.numbers.specs.Numbers.{numbered_count}
use Rattle.lookup.specs.Promise.{SoughtNext}
use Rattle.lookup.proofs.Searches.{sought_none, sought_few, next_other, other_code, sought_next, sought_all}
use Rattle.lookup.proofs.search_numbers.Goals as goal
use Rattle.lookup.proofs.search_numbers.Goals.{then-a-code, else-a-code}

pub loop-position-init : goal.loop-position-init
loop-position-init c =
    let a = c.args in
    sought_none a.numbers.now a.vendor a.code a.ordinal

pub with_next-sought-requires : goal.with_next-sought-requires
with_next-sought-requires c =
    let l = c.loop-position in
    sought_few _ _ _ _ l.position (omega arith) _ l.invariant

pub loop-position-preserved : goal.loop-position-preserved
loop-position-preserved c =
    let a = c.args in
    let l = c.loop-position in
    let i = l.position in
    let here : i < min (numbered_count a.numbers.now) most_avps = omega arith in
    let next : SoughtNext l.sought c.get-a.result i a.vendor a.code a.ordinal c.if-a-code.sought =
    elim c.if-a-code.branch [
      | then-a-code w ↦ rw w.sought-is w.with_next-sought.ensures
      | else-a-code w ↦ rw w.sought-is (next_other _ _ i _ _ _ (other_code c.get-a.result a.vendor a.code w.if-a-code.false))
    ] in
    sought_next _ _ _ _ i here _ _ _ c.get-a.ensures l.invariant next

pub returns : goal.returns
returns c =
    sought_all _ _ _ _ c.loop-position.position (omega arith) _ c.loop-position.invariant
