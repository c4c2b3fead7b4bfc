-- `writer::write_octets` meets its contract.
use mathlib.Core.Path.{◌≡◌, sym, ◌∙◌}
use native.Mathlib.Omega.{arith}
use lib.ListN.{length, take}
use lib.Seq.{length-take-le}
use Rattle.std.proofs.lemmas.Result.{err_from_is_err_and}
use Rattle.numbers.specs.Draft.{numbered_draft}
use Rattle.output.proofs.Output.{put_fits}
use Rattle.writer.proofs.Answers.{written_refused, size_fits, judged_refused, judged_accepted}
use Rattle.writer.proofs.write_octets.Goals as goal

pub returns-in_err-size : goal.returns-in_err-size
returns-in_err-size c =
    let p = err_from_is_err_and c.from_residual.result c.from_residual.ensures.1 in
    rw (p.1, p.2) (written_refused _ c.args.out.now (sym c.in_err-size.ensures.outcome))

pub returns-in_err-outcome : goal.returns-in_err-outcome
returns-in_err-outcome c =
    let a = c.args in
    let d = numbered_draft a.numbers.now a.s.now in
    let encoded = c.in_ok-size.ensures in
    let p = err_from_is_err_and c.from_residual-in_err-outcome.result c.from_residual-in_err-outcome.ensures.1 in
    rw (p.1, p.2)
    (judged_refused d a.out.now (sym encoded.outcome) _ encoded.size _ _ encoded.left
    (sym c.outcome.ensures.answer ∙ c.in_err-outcome.was))

pub returns : goal.returns
returns c =
    let a = c.args in
    let d = numbered_draft a.numbers.now a.s.now in
    let size = c.in_ok-size.size in
    let encoded = c.in_ok-size.ensures in
    let own = sym encoded.outcome in
    let fits = size_fits d a.out.now own _ encoded.size _ _ encoded.left in
    let xs = take size c.encode.new.command in
    let long : length xs ≡ size = length-take-le size c.encode.new.command (omega (arith, fits.0, c.encode.array_long)) in
    let copied = put_fits _ 0 xs size long (omega (arith, fits.1)) _ c.put_octets.ensures in
    judged_accepted d a.out.now own _ encoded.size _ _ encoded.left (sym c.outcome.ensures.answer ∙ c.in_ok-outcome.was) _ copied
