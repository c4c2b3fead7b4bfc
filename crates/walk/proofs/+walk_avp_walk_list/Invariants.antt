-- The depth that is left falls at each group, and from the list walk to its AVPs; the list walk goes by `Turn`.
use Prim.Native.Nat.{◌+◌, ◌-◌, ◌*◌}
use Rattle.dictionary.specs.Table.{dictionary_by}
use Rattle.walk.specs.Promise.{standing_of, number_by}
use Rattle.walk.proofs.Along.{Turn}
use Rattle.walk.proofs.+walk_avp_walk_list.Given as goal

abbrev pub decreases-walk_avp : goal.decreases-walk_avp
decreases-walk_avp l = 2 * (4 - l.w.depth)

abbrev pub decreases-walk_list : goal.decreases-walk_list
decreases-walk_list l = 2 * (4 - l.w.depth) + 1

abbrev pub invariant-walk_list-loop-here : goal.invariant-walk_list-loop-here
invariant-walk_list-loop-here l =
    Turn (dictionary_by l.table) (number_by l.table) l.initial.here.s.now (standing_of l.initial.here) l.initial.log l.here l.log

abbrev pub decreases-walk_list-loop-here : goal.decreases-walk_list-loop-here
decreases-walk_list-loop-here l = l.here.end - l.here.at
