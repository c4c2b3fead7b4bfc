-- `lookup::search_numbers` meets its contract. So far the answer is that of the search among the AVPs before a position.
use mathlib.Core.Path.{◌≡◌}
use Rattle.lookup.proofs.Searches.{sought_before}
use Rattle.lookup.proofs.search_numbers.Given as goal

abbrev pub invariant-loop-position : goal.invariant-loop-position
invariant-loop-position l =
    l.sought ≡ sought_before l.numbers l.vendor l.code l.ordinal l.position
