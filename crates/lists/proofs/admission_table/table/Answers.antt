-- `lists::admission_table::table` meets its contract: the equation is computed over the whole table.
use mathlib.Core.Path.{refl}
use Rattle.rules.specs.Rows.{rows_of}
use Rattle.rules.specs.Dictionary.{dictionary}
use Rattle.rules.specs.RowChecks.{admission_from}
use Rattle.lists.specs.ByLog.{admission_at}
use Rattle.lists.specs.Tables.{admission_in}
use Rattle.lists.proofs.Tables.{admission_rule}
use Rattle.lists.proofs.admission_table.table.Goals as goal

pub returns : goal.returns
unfolding dictionary admission_in admission_at admission_from rows_of
returns c = admission_rule _ refl
