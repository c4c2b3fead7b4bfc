-- `reader::record::record_of` meets its contract.
use Rattle.rules.specs.Record.{record_of}
use Rattle.walk_log.proofs.Log.{length-avps_in}
use Rattle.reader.proofs.record.record_of.Goals as goal

pub returns : goal.returns
unfolding record_of
returns c =
    let a = c.args in
    let many = length-avps_in a.log.now a.count c.requires.1 in
    cc (many, c.number4.ensures.is, c.number4-2.ensures.is)
