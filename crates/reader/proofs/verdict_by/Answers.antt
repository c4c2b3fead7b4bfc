-- `reader::verdict_by` meets its contract.
use mathlib.Core.Path.{ap, ◌∙◌}
use Rattle.rules.specs.Verdict.{verdict_of}
use Rattle.reader.proofs.Order.{verdict_told}
use Rattle.reader.proofs.verdict_by.Goals as goal

pub returns : goal.returns
returns c =
    let is = c.judge_by.ensures in
    record {
      answer = c.verdict_of.ensures ∙ ap verdict_of is.outcome;
      left = is.left;
      right = λ table. c.verdict_of.ensures ∙ verdict_told _ _ (is.right table);
    }
