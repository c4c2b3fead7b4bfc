-- `fragments::fill` meets its contract.
use mathlib.Core.Path.{◌≡◌}
use Prim.Native.Nat.{◌-◌, min}
use native.Mathlib.Omega.{arith}
use lib.ListN.{length, take}
use lib.Seq.{length-take-le}
use Rattle.output.proofs.Output.{put_fits}
use Rattle.fragments.proofs.fill.Goals as goal

pub returns : goal.returns
returns c =
    let a = c.args in
    let r = c.min-count.result in
    let count : r ≡ min (length a.fragment.now) (a.goal - a.held) =
    omega (arith, c.min-count.ensures, c.saturating_sub.ensures) in
    let long = length-take-le r a.fragment.now (omega (arith, count)) in
    record {
      count = count;
      octets =
          put_fits a.buffer.now a.held (take r a.fragment.now) r long (omega (arith, count)) _
          c.put_octets.ensures;
    }
