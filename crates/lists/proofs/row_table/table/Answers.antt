-- `lists::row_table::table` meets its contract: the equation is computed over the whole table.
use mathlib.Core.Path.{refl}
use Rattle.rules.specs.Rows.{rows_of}
use Rattle.rules.specs.Dictionary.{dictionary}
use Rattle.dictionary.specs.Entries.{vendor_of, code_of}
use Rattle.lists.specs.Tables.{requirement_in, requirements_from}
use Rattle.lists.proofs.Tables.{row_rule}
use Rattle.lists.proofs.row_table.table.Goals as goal

pub returns : goal.returns
unfolding dictionary vendor_of code_of requirement_in requirements_from rows_of
returns c = row_rule _ refl
