-- `encoding::header::put_identifiers` meets its contract.
use native.Mathlib.Omega.{arith}
use Rattle.rules.specs.Header.{application_nt}
use Rattle.output.proofs.Output.{octets_four, put_fits}
use Rattle.encoding.proofs.Commands.{identifiers_put}
use Rattle.encoding.proofs.header.put_identifiers.Goals as goal

pub returns : goal.returns
returns c =
    let first = put_fits _ 8 _ 4 (octets_four application_nt) (omega arith) _ c.put_number4.ensures in
    let second = put_fits _ 12 _ 4 (octets_four _) (omega arith) _ c.put_number4-2.ensures in
    let third = put_fits _ 16 _ 4 (octets_four _) (omega arith) _ c.put_number4-3.ensures in
    identifiers_put _ _ _ c.head_of-head.ensures _ first _ second _ third
