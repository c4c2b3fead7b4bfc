-- `walk::frame::framed` meets its contract.
use mathlib.Core.Path.{sym, ap, ◌∙◌}
use Rattle.std.specs.Prelude.{Err, Ok}
use Rattle.walk.proofs.Framing.{read_left, read_plain, read_vendor_left, read_vendor}
use Rattle.walk.proofs.frame.framed.Goals as goal

pub returns-then-left-lt-AVP_HEADER_SIZE : goal.returns-then-left-lt-AVP_HEADER_SIZE
returns-then-left-lt-AVP_HEADER_SIZE c =
    let a = c.args in
    ap Err c.fault.ensures ∙ read_left a.w.s.now a.w.at a.w.end a.w.order a.w.inside a.w.depth c.if-left-lt-AVP_HEADER_SIZE.true

pub returns-then-misfits : goal.returns-then-misfits
returns-then-misfits c =
    let a = c.args in
    let plain = read_plain a.w.s.now a.w.at a.w.end a.w.order a.w.inside a.w.depth c.if-left-lt-AVP_HEADER_SIZE.false
    c.number4-code.ensures.is c.number3-length.ensures.is (sym c.has_flag.ensures ∙ c.if-not-has_flag.true) in
    ap Err c.fault-then-misfits.ensures ∙ plain.0 (sym c.misfits.ensures ∙ c.if-misfits.true)

pub returns-then-not-has_flag : goal.returns-then-not-has_flag
returns-then-not-has_flag c =
    let a = c.args in
    let plain = read_plain a.w.s.now a.w.at a.w.end a.w.order a.w.inside a.w.depth c.if-left-lt-AVP_HEADER_SIZE.false
    c.number4-code.ensures.is c.number3-length.ensures.is (sym c.has_flag.ensures ∙ c.if-not-has_flag.true) in
    ap Ok c.avp_by.ensures ∙ plain.1 (sym c.misfits.ensures ∙ c.if-misfits.false)

pub returns-then-left-lt-AVP_HEADER_SIZE_WITH_VENDOR : goal.returns-then-left-lt-AVP_HEADER_SIZE_WITH_VENDOR
returns-then-left-lt-AVP_HEADER_SIZE_WITH_VENDOR c =
    let a = c.args in
    ap Err c.fault-then-left-lt-AVP_HEADER_SIZE_WITH_VENDOR.ensures
    ∙ read_vendor_left a.w.s.now a.w.at a.w.end a.w.order a.w.inside a.w.depth c.if-left-lt-AVP_HEADER_SIZE.false c.number4-code.ensures.is
    (sym c.has_flag.ensures ∙ c.if-not-has_flag.false) c.if-left-lt-AVP_HEADER_SIZE_WITH_VENDOR.true

pub returns-then-misfits-2 : goal.returns-then-misfits-2
returns-then-misfits-2 c =
    let a = c.args in
    let by_vendor = read_vendor a.w.s.now a.w.at a.w.end a.w.order a.w.inside a.w.depth c.if-left-lt-AVP_HEADER_SIZE.false
    c.number4-code.ensures.is c.number3-length.ensures.is (sym c.has_flag.ensures ∙ c.if-not-has_flag.false)
    c.if-left-lt-AVP_HEADER_SIZE_WITH_VENDOR.false c.number4-vendor.ensures.is in
    ap Err c.fault-then-misfits-2.ensures ∙ by_vendor.0 (sym c.misfits-2.ensures ∙ c.if-misfits-2.true)

pub returns : goal.returns
returns c =
    let a = c.args in
    let by_vendor = read_vendor a.w.s.now a.w.at a.w.end a.w.order a.w.inside a.w.depth c.if-left-lt-AVP_HEADER_SIZE.false
    c.number4-code.ensures.is c.number3-length.ensures.is (sym c.has_flag.ensures ∙ c.if-not-has_flag.false)
    c.if-left-lt-AVP_HEADER_SIZE_WITH_VENDOR.false c.number4-vendor.ensures.is in
    ap Ok c.avp_by-2.ensures ∙ by_vendor.1 (sym c.misfits-2.ensures ∙ c.if-misfits-2.false)
