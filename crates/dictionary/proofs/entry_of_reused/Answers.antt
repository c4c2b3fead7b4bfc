-- `dictionary::entry_of_reused` meets its contract: the arms are computed, and `_` knows that no entry has the code.
use mathlib.Core.Path.{sym}
use lib.Dec.{ltb}
use borrow.Author.Tests.{lt-ltb}
use Rattle.rules.specs.Dictionary.{dictionary}
use Rattle.rules.specs.Header.{vendor_3gpp}
use Rattle.dictionary.specs.Entries.{number_where, least_nt_code}
use Rattle.dictionary.proofs.Entries.{absent_code}
use Rattle.dictionary.proofs.entry_of_reused.Goals as goal

pub returns-in_default : goal.returns-in_default
unfolding number_where dictionary
returns-in_default c =
    sym
    (absent_code (λ code. ltb code least_nt_code) dictionary vendor_3gpp _ (lt-ltb _ least_nt_code c.requires)
    c.in_default.in_default-own.rest)
