-- `encoding::avps::put_header` meets its contract.
use mathlib.Core.Path.{◌≡◌, sym}
use Prim.Native.Nat.{◌+◌}
use native.Mathlib.Omega.{arith}
use borrow.Author.Tests.{eq-eqb, ne_eqb}
use lib.ListN.{length-set}
use Rattle.output.proofs.Output.{octets_three, octets_four, put_fits}
use Rattle.draft.specs.Drafts.{header_for}
use Rattle.encoding.proofs.Putting.{header_without_vendor, header_with_vendor}
use Rattle.encoding.proofs.avps.put_header.Goals as goal

pub returns-then-a-eq-NO_VENDOR : goal.returns-then-a-eq-NO_VENDOR
returns-then-a-eq-NO_VENDOR c s =
    let a = c.args in
    let eight : header_for a.a ≡ 8 = rw (eq-eqb _ 0 c.if-a-eq-NO_VENDOR.true) in
    let kept = length-set c.put_number4.new.out (a.at + 4) c.avp_flags.result in
    let first = put_fits _ a.at _ 4 (octets_four a.a.code) (omega arith) _ c.put_number4.ensures in
    let second = put_fits _ (a.at + 5) _ 3 (octets_three (8 + a.a.length)) (omega arith) _
    c.put_number3.ensures in
    header_without_vendor s a.a a.out.now a.at _ first _ (c.avp_flags.ensures s) 8 (sym eight) _ second
    c.if-a-eq-NO_VENDOR.true

pub returns : goal.returns
returns c s =
    let a = c.args in
    let twelve : header_for a.a ≡ 12 = rw (ne_eqb _ 0 c.if-a-eq-NO_VENDOR.false) in
    let kept = length-set c.put_number4.new.out (a.at + 4) c.avp_flags.result in
    let first = put_fits _ a.at _ 4 (octets_four a.a.code) (omega arith) _ c.put_number4.ensures in
    let second = put_fits _ (a.at + 5) _ 3 (octets_three (12 + a.a.length)) (omega arith) _
    c.put_number3-2.ensures in
    let third = put_fits _ (a.at + 8) _ 4 (octets_four _) (omega arith) _ c.put_number4-2.ensures in
    header_with_vendor s a.a a.out.now a.at _ first _ (c.avp_flags.ensures s) 12 (sym twelve) _ second
    c.if-a-eq-NO_VENDOR.false _ third
