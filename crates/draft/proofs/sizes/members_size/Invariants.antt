-- `draft::sizes::members_size` meets its contract. The size so far and what is left at a position are the whole size.
use mathlib.Core.Path.{◌≡◌}
use mathlib.Core.List.{List}
use Prim.Native.Nat.{ℕ, ◌+◌, ◌*◌, ◌≤◌}
use Rattle.rules.specs.Walk.{most_avps}
use Rattle.draft.specs.Promise.{longest_avp}
use Rattle.draft.proofs.Positions.{members_left}
use Rattle.draft.proofs.sizes.members_size.Given as goal

abbrev pub invariant-loop-position : goal.invariant-loop-position
invariant-loop-position l = record {
  below : l.position ≤ most_avps;
  small : l.size ≤ l.position * longest_avp;
  whole : (s : List ℕ)
      → l.size + members_left l.numbers s l.depth l.position ≡ members_left l.numbers s l.depth l.from;
}
