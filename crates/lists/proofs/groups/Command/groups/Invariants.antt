-- `lists::groups::Command::groups` meets its contract. The invariant says what is left: the groups from position `i` on,
-- with the number of policies and the first faults of policies and windows so far.
use Rattle.rules.specs.Verdict.{no_refusal}
use Rattle.walk_log.specs.Log.{logged_of, avps_in}
use Rattle.lists.specs.ByLog.{group_at}
use Rattle.lists.specs.Exchanges.{policy_logged, window_logged}
use Rattle.lists.proofs.Members.{PoliciesBefore, Reached}
use Rattle.lists.proofs.groups.Command.groups.Given as goal

abbrev pub invariant-loop-i : goal.invariant-loop-i
invariant-loop-i l =
    PoliciesBefore (logged_of l.self.log.now) l.self.count l.groups.number l.i
    × Reached (group_at (logged_of l.self.log.now) l.self.count) l.self.count no_refusal l.i
    × Reached (policy_logged (logged_of l.self.log.now) l.self.count) l.self.count l.groups.policies l.i
    × Reached (window_logged (logged_of l.self.log.now) (avps_in l.self.log.now l.self.count) l.self.s.now l.self.count) l.self.count l.groups.windows l.i
