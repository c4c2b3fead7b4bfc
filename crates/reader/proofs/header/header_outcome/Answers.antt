-- `reader::header::header_outcome` meets its contract.
use mathlib.Core.Path.{sym}
use native.Mathlib.Omega.{arith}
use Rattle.rules.proofs.Header.{length-enough}
use Rattle.reader.proofs.header.header_outcome.Goals as goal

pub bounds-s-4 : goal.bounds-s-4
bounds-s-4 c =
    let s = c.args.s.now in
    omega (arith, length-enough s (sym c.in_ok-length_outcome.ensures))
