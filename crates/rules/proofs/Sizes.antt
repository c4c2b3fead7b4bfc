-- The octets of a well-formed draft's AVPs (01, The record and the writer), as the writer's code computes them: cited
-- by the crate encoding. A read group needs no padding, and the command's own list is the members at depth 1.
use mathlib.Core.Path.{◌≡◌, sym, ◌∙◌}
use mathlib.Core.Bool.{true}
use lib.ListN.{length}
use Rattle.rules.specs.Dictionary.{dictionary}
use Rattle.rules.specs.Record.{recorded}
use Rattle.rules.specs.Wire.{list_octets}
use Rattle.rules.specs.Draft.{Draft, cells_of, members_size, is_well_formed}
use Rattle.rules.proofs.demands.items.Trees.{tree_over, over_deep, under_all}
use Rattle.rules.proofs.demands.items.Members.{members_under}
use Rattle.rules.proofs.demands.written.Drafts.{placed_long, well_formed}

-- the octets of a well-formed draft's list are those of its members at depth 1
pub draft_long : (d : Draft) → is_well_formed d ≡ true → length (list_octets (cells_of d)) ≡ members_size 1 (cells_of d)
draft_long d form =
    let w = well_formed d form in
    let cs = cells_of d in
    placed_long dictionary d.octets (recorded d.«record») w.placed_all w.sizes
    ∙ sym (members_under dictionary cs 0 w.tree w.sizes
    ∙ under_all dictionary cs (over_deep 0 cs (tree_over dictionary cs 1 w.tree)))
