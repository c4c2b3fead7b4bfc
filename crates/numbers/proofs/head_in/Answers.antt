-- `numbers::head_in` meets its contract.
use Rattle.rules.specs.Record.{record_of}
use Rattle.numbers.proofs.head_in.Goals as goal

pub returns : goal.returns
unfolding record_of
returns c =
    rw (
      c.has_flag.ensures,
      c.has_flag-2.ensures,
      c.has_flag-3.ensures,
      c.has_flag-4.ensures,
      c.number4.ensures.is,
      c.number4-2.ensures.is,
      c.flags_of-flags.ensures,
    )
