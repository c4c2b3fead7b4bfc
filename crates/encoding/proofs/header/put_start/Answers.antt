-- `encoding::header::put_start` meets its contract.
use native.Mathlib.Omega.{arith}
use lib.ListN.{length-set}
use Rattle.rules.specs.Header.{code_background_data_transfer}
use Rattle.output.proofs.Output.{octets_three, put_fits}
use Rattle.encoding.proofs.header.put_start.Goals as goal

pub returns : goal.returns
returns c =
    let a = c.args in
    let room = length-set a.out.now 0 1 in
    let first = put_fits _ 1 _ 3 (octets_three a.size) (omega (arith, room)) _ c.put_number3.ensures in
    let flags = c.command_flags in
    let kept = length-set c.put_number3.new.out 4 flags.result in
    let second = put_fits _ 5 _ 3 (octets_three code_background_data_transfer) (omega (arith, room, kept)) _
    c.put_number3-2.ensures in
    record { is = λ s. rw (second, first, flags.ensures s) }
