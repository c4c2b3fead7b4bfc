-- `dictionary::plain_codes` meets its contract: the test is computed over the whole table.
use Rattle.rules.specs.Dictionary.{dictionary}
use Rattle.dictionary.specs.Entries.{number_where}
use Rattle.dictionary.proofs.Table.{table_rule}
use Rattle.dictionary.proofs.plain_codes.Goals as goal

pub returns : goal.returns
unfolding dictionary number_where
returns c =
    table_rule _ tt
