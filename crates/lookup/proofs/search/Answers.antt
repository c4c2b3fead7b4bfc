-- `lookup::search` meets its contract: the record's numbers stand for the record.
use borrow.Author.Rules.{rules}
use mathlib.Core.Path.{◌≡◌, ap, ◌∙◌, subst}
use lib.ListN.{length}
use Rattle.rules.specs.declared.Record.{Record}
use Rattle.rules.specs.Walk.{most_avps}
use Rattle.numbers.specs.Numbers.{numbered_record}
use Rattle.numbers.proofs.Numbers.{length-mapped, record_back}
use Rattle.lookup.specs.Promise.{IsSought}
use Rattle.lookup.proofs.search.Goals as goal

pub returns : goal.returns
returns c =
    let a = c.args in
    let full : length a.record.avps ≡ most_avps = search (rules, length-mapped) in
    let same = ap numbered_record c.put.ensures ∙ record_back a.record full in
    let is : Record → Type 0 = λ r. IsSought r a.vendor a.code a.ordinal c.search_numbers.result in
    subst is same c.search_numbers.ensures
