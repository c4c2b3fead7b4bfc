-- `link::Link::list_octets` meets its contract.
use Rattle.std.proofs.Common.{ap, arith}
use Rattle.fragments.specs.declared.Step.{Step}
use Rattle.fragments.proofs.Calls.{taken_within}
use Rattle.link.proofs.Puts.{line_listed}
use Rattle.link.proofs.Link.list_octets.Goals as goal

pub overflow_add-size : goal.overflow_add-size
overflow_add-size c =
    let l = c.args.self.now in
    omega (
      arith,
      ap (λ (s : Step). s.taken) c.take-step.ensures.answer,
      taken_within l.tally.state c.args.octets.now l.buffer,
    )

pub returns : goal.returns
returns c =
    let l = c.args.self.now in
    let s = c.take-step.result in
    line_listed l c.args.octets.now s c.take-step.ensures.answer _
    c.after-self.ensures c.take-step.ensures.octets c.put_line-self.ensures
