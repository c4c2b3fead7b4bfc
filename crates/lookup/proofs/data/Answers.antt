-- `lookup::data` meets its contract: each part that is handed back is made of the slice, so where it begins computes;
-- the octets are those of that part.
use mathlib.Core.Path.{◌≡◌, sym, ap, ◌∙◌}
use Prim.Native.Nat.{ℕ, ◌+◌, ◌-◌}
use native.Mathlib.Omega.{arith}
use lib.ListN.{length, take, drop}
use Rattle.rules.specs.Search.{avp_in}
use Rattle.rules.specs.Record.{data_start}
use Rattle.lookup.proofs.Positions.{lies_unused, lies_outside, lies_inside, data_unused, data_outside, data_inside}
use Rattle.lookup.proofs.data.Goals as goal

pub returns-then-position-min-clause-place : goal.returns-then-position-min-clause-place
unfolding data_start
returns-then-position-min-clause-place c =
    let a = c.args in
    rw (lies_unused a.record a.position (length a.s.now) (omega arith)) (omega arith)

pub returns-then-position-min-clause-octets : goal.returns-then-position-min-clause-octets
returns-then-position-min-clause-octets c =
    let a = c.args in
    sym (data_unused a.record a.position a.s.now (omega arith))

pub returns-then-end-s-clause-place : goal.returns-then-end-s-clause-place
unfolding data_start
returns-then-end-s-clause-place c =
    let a = c.args in
    rw (lies_outside a.record a.position (length a.s.now) (omega arith) (omega arith)) (omega arith)

pub returns-then-end-s-clause-octets : goal.returns-then-end-s-clause-octets
returns-then-end-s-clause-octets c =
    let a = c.args in
    sym (data_outside a.record a.position a.s.now (omega arith) (omega arith))

pub returns-clause-place : goal.returns-clause-place
unfolding data_start
returns-clause-place c =
    let a = c.args in
    rw (lies_inside a.record a.position (length a.s.now) (omega arith) (omega arith)) (omega arith)

pub returns-clause-octets : goal.returns-clause-octets
returns-clause-octets c =
    let a = c.args in
    let x = avp_in a.record.avps a.position in
    let e : x.start + x.length - x.start ≡ x.length = omega arith in
    ap (λ (n : ℕ). take n (drop x.start a.s.now)) e
    ∙ sym (data_inside a.record a.position a.s.now (omega arith) (omega arith))
