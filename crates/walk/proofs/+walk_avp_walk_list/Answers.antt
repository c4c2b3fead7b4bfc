-- `walk::walk_avp` and `walk::walk_list` meet their contracts. The depth that is left falls at each group, and from the
-- list walk to its AVPs.
use mathlib.Core.Path.{◌≡◌, refl}
use Rattle.std.specs.Prelude.{Ok}
use Prim.Native.Nat.{ℕ}
use Rattle.std.proofs.lemmas.Result.{err_from_is_err_and}
use native.Mathlib.Omega.{arith}
use Rattle.rules.specs.Walk.{checked}
use Rattle.dictionary.specs.Table.{dictionary_by}
use Rattle.walk.specs.Promise.{standing_of, number_by}
use Rattle.walk.proofs.Framing.{passed_fault, passed_plain, passed_group}
use Rattle.walk.proofs.OneAvp.{step_is, same_octets, passed_in, group_level, fault_walked, plain_walked, group_walked}
use Rattle.walk.proofs.Along.{turn_start, turn_again, turn_stopped, turn_end}
use Rattle.walk.proofs.+walk_avp_walk_list.Goals as goal

pub walk_avp-returns-in-Err : goal.walk_avp-returns-in-Err
walk_avp-returns-in-Err t c =
    let a = c.args in
    let w = standing_of a.w in
    let dict = dictionary_by a.table.now in
    let numbers = number_by a.table.now in
    fault_walked dict numbers a.w.s.now w a.log.now c.in-Err.verdict
    (passed_fault numbers (checked dict a.w.s.now w) c.in-Err.verdict c.in-Err.ensures)

pub walk_avp-behind-requires-clause-list : goal.walk_avp-behind-requires-clause-list
walk_avp-behind-requires-clause-list t c =
    let a = c.args in
    let w = standing_of a.w in
    let dict = dictionary_by a.table.now in
    let numbers = number_by a.table.now in
    let p = passed_in dict numbers a.w.s.now w c.in-Ok.ensures in
    omega (arith, p.0, c.next_after-next.ensures)

pub walk_avp-behind-requires-clause-room : goal.walk_avp-behind-requires-clause-room
walk_avp-behind-requires-clause-room t c =
    let a = c.args in
    let w = standing_of a.w in
    let dict = dictionary_by a.table.now in
    let numbers = number_by a.table.now in
    let p = passed_in dict numbers a.w.s.now w c.in-Ok.ensures in
    omega (arith, p.1)

pub walk_avp-returns-then-not-passed : goal.walk_avp-returns-then-not-passed
walk_avp-returns-then-not-passed t c =
    let a = c.args in
    let w = standing_of a.w in
    let dict = dictionary_by a.table.now in
    let numbers = number_by a.table.now in
    let told = passed_plain numbers (checked dict a.w.s.now w) c.in-Ok.passed c.in-Ok.ensures c.if-not-passed.true in
    plain_walked dict numbers a.w.s.now w a.log.now c.put.new.log c.put.ensures told.1 told.0 c.put_family.new.log
    c.put_family.ensures _
    (step_is a.w c.behind.result c.behind.ensures.there c.next_after-next.ensures (Ok _) refl) (same_octets c.behind.ensures.same)

pub walk_avp-invariant_of-list : goal.walk_avp-invariant_of-list
walk_avp-invariant_of-list t c =
    let a = c.args in
    let w = standing_of a.w in
    let dict = dictionary_by a.table.now in
    let numbers = number_by a.table.now in
    let p = passed_in dict numbers a.w.s.now w c.in-Ok.ensures in
    let told = passed_group numbers (checked dict a.w.s.now w) c.in-Ok.passed c.in-Ok.ensures c.if-not-passed.false in
    let level = group_level dict a.w.s.now w told.0 in
    record {
      order = omega arith;
      inside = omega (arith, p.0);
      short = a.w.short;
      level = omega (arith, level);
      few = omega (arith, p.1);
    }

pub walk_avp-returns-in_err-members : goal.walk_avp-returns-in_err-members
walk_avp-returns-in_err-members t c =
    let a = c.args in
    let w = standing_of a.w in
    let dict = dictionary_by a.table.now in
    let numbers = number_by a.table.now in
    let told = passed_group numbers (checked dict a.w.s.now w) c.in-Ok.passed c.in-Ok.ensures c.if-not-passed.false in
    let members = c.walk_list-members in
    let p = err_from_is_err_and c.from_residual.result c.from_residual.ensures.1 in
    group_walked dict numbers a.w.s.now w a.log.now c.put.new.log c.put.ensures told.1 told.0 members.result
    members.new.log members.ensures c.put_family-2.new.log (rw c.met_in.ensures at c.put_family-2.ensures) _
    (rw (p.1, p.2, c.in_err-members.was)) (λ v e. let z : ◌≡◌ {A = ℕ} 0 1 = cc (p.1, e) in absurd (omega arith))

pub walk_avp-behind-requires-2-clause-list : goal.walk_avp-behind-requires-2-clause-list
walk_avp-behind-requires-2-clause-list t c =
    let a = c.args in
    let w = standing_of a.w in
    let dict = dictionary_by a.table.now in
    let numbers = number_by a.table.now in
    let p = passed_in dict numbers a.w.s.now w c.in-Ok.ensures in
    omega (arith, p.0, c.next_after-next.ensures)

pub walk_avp-returns : goal.walk_avp-returns
walk_avp-returns t c =
    let a = c.args in
    let w = standing_of a.w in
    let dict = dictionary_by a.table.now in
    let numbers = number_by a.table.now in
    let told = passed_group numbers (checked dict a.w.s.now w) c.in-Ok.passed c.in-Ok.ensures c.if-not-passed.false in
    let members = c.walk_list-members in
    group_walked dict numbers a.w.s.now w a.log.now c.put.new.log c.put.ensures told.1 told.0 members.result
    members.new.log members.ensures c.put_family-2.new.log (rw c.met_in.ensures at c.put_family-2.ensures) _
    (step_is a.w c.behind-2.result c.behind-2.ensures.there c.next_after-next.ensures members.result c.in_ok-members.was) (same_octets c.behind-2.ensures.same)

pub walk_list-loop-here-init : goal.walk_list-loop-here-init
walk_list-loop-here-init t c = turn_start _ _ _ _ _ _ refl refl

pub walk_list-returns-in_err-here : goal.walk_list-returns-in_err-here
walk_list-returns-in_err-here t c =
    let p = err_from_is_err_and c.from_residual.result c.from_residual.ensures.1 in
    rw (p.1, p.2) (turn_stopped _ _ _ _ _ _ _ c.loop-here.invariant c.loop-here-test.true _ _ c.in_err-here.ensures)

pub walk_list-loop-here-preserved : goal.walk_list-loop-here-preserved
walk_list-loop-here-preserved t c =
    turn_again _ _ _ _ _ _ _ c.loop-here.invariant c.loop-here-test.true _ _ c.in_ok-here.ensures

pub walk_list-returns : goal.walk_list-returns
walk_list-returns t c =
    turn_end _ _ _ _ _ _ _ c.loop-here.invariant c.loop-here-test.false
