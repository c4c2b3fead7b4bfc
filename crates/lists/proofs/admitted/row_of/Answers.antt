-- `lists::admitted::row_of` meets its contract.
use Rattle.rules.specs.Dictionary.{dictionary}
use Rattle.lists.proofs.Tables.{admits_by, admits_none}
use Rattle.lists.proofs.admitted.row_of.Goals as goal

pub returns-then-entry-ge-NO_ENTRY : goal.returns-then-entry-ge-NO_ENTRY
unfolding dictionary
returns-then-entry-ge-NO_ENTRY c =
    admits_none _ _ c.if-entry-ge-NO_ENTRY.true

pub returns : goal.returns
unfolding dictionary
returns c =
    admits_by _ c.table.ensures _ _ _ _ c.list_index.ensures c.if-entry-ge-NO_ENTRY.false (rw c.from.ensures at c.admission_in.ensures)
