-- `lists::List::judge` meets its contract. The invariant says what is left: the members from position `i` on, with the
-- row counts so far, each at most the number of positions passed.
use mathlib.Core.Path.{◌≡◌}
use Prim.Native.Nat.{ℕ, ◌-◌, ◌≤◌}
use lib.ListN.{get_or}
use Rattle.walk_log.specs.Log.{logged_of}
use Rattle.lists.specs.ByLog.{list_by}
use Rattle.lists.specs.Firsts.{no_firsts, firsts_from}
use Rattle.lists.proofs.Members.{left_by}
use Rattle.lists.proofs.List.judge.Given as goal

abbrev pub invariant-loop-i : goal.invariant-loop-i
invariant-loop-i l =
    ((row : ℕ) → get_or l.counts row 0 ≤ l.i)
    × (left_by (logged_of l.self.log.now) l.self.to l.self.grammar l.self.end l.counts l.first l.i
    ≡ list_by (logged_of l.self.log.now) l.self.grammar l.self.end l.self.from l.self.to)
    × (firsts_from (l.self.to - l.i) (logged_of l.self.log.now) l.i l.self.to l.firsts
    ≡ firsts_from (l.self.to - l.self.from) (logged_of l.self.log.now) l.self.from l.self.to no_firsts)

abbrev pub decreases-loop-i : goal.decreases-loop-i
decreases-loop-i l = l.self.to - l.i
