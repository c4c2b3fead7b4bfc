-- `octets::number_at` meets its contract: the octets so far are a number.
use Rattle.std.proofs.Common.{take}
use Rattle.rules.specs.Octets.{number, IsNumber}
use Rattle.octets.proofs.number_at.Given as goal

abbrev pub invariant-loop-octet : goal.invariant-loop-octet
invariant-loop-octet g l = IsNumber l.octet-index (number (take l.octet-index l.octets)) l.number
