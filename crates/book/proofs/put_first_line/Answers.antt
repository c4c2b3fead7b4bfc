-- `book::put_first_line` meets its contract.
use mathlib.Core.Path.{refl}
use native.Mathlib.Omega.{arith}
use Rattle.output.proofs.Output.{put_fits}
use Rattle.book.proofs.put_first_line.Goals as goal

pub returns : goal.returns
returns c =
    let put = put_fits c.args.out.now 0 c.args.line.now _ refl (omega (arith, c.requires)) _ in
    record { next = omega arith; octets = put c.put_octets.ensures }
