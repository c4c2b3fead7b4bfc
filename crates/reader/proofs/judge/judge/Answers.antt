-- `reader::judge::judge` meets its contract.
use Rattle.reader.proofs.Order.{judged_right}
use Rattle.reader.proofs.judge.judge.Goals as goal

pub returns : goal.returns
returns c =
    let a = c.args in
    judged_right c.plain_codes.result.now c.plain_codes.ensures a.s.now a.log.now c.judge_by.ensures
