-- `encoding::avps::put_list` meets its contract. With what is left at a position put, the octets are those of the whole
-- list.
use native.Mathlib.Omega.{arith}
use Rattle.encoding.proofs.Listing.{left_end, left_can, left_next}
use Rattle.encoding.proofs.avps.put_list.Goals as goal

pub put_avp-at-requires : goal.put_avp-at-requires
put_avp-at-requires c =
    let a = c.args in
    let l = c.loop-position in
    left_can a.numbers.now a.s.now a.out.now l.out l.at l.position l.invariant (omega arith) c.get.result c.get.ensures

pub loop-position-preserved : goal.loop-position-preserved
loop-position-preserved c =
    let a = c.args in
    let l = c.loop-position in
    left_next a.numbers.now a.s.now a.out.now l.out l.at l.position l.invariant (omega arith) c.get.result c.get.ensures _ _
    c.put_avp-at.ensures

pub returns : goal.returns
returns c =
    let a = c.args in
    let l = c.loop-position in
    left_end a.numbers.now a.s.now a.out.now l.out l.at l.position l.invariant (omega arith)
