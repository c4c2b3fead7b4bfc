-- `encoding::avps::put_list` meets its contract. With what is left at a position put, the octets are those of the whole
-- list.
use Rattle.encoding.proofs.Listing.{Left}
use Rattle.encoding.proofs.avps.put_list.Given as goal

abbrev pub invariant-loop-position : goal.invariant-loop-position
invariant-loop-position l =
    Left l.numbers l.s l.initial.out l.out l.at l.position
