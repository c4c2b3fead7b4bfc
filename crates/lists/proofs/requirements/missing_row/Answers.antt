-- `lists::requirements::missing_row` meets its contract. The invariant says what is left: the rows from `k` on.
use mathlib.Core.Path.{refl, sym, ◌∙◌}
use mathlib.Core.Bool.{true, false}
use Rattle.lists.proofs.Tables.{missing_first, missing_end, missing_next, missing_past}
use Rattle.lists.proofs.requirements.missing_row.Goals as goal

pub returns-then-number : goal.returns-then-number
returns-then-number c =
    let list = c.list_index-from in
    sym (missing_end _ _ _ _ c.loop-k.k c.loop-k-test.true c.if-number.true)
    ∙ c.loop-k.invariant
    ∙ missing_first _ _ _ _ c.table-table.ensures c.args.grammar list.result list.ensures refl

pub returns-then-is_missing : goal.returns-then-is_missing
returns-then-is_missing c =
    let list = c.list_index-from in
    let here = sym c.is_missing.ensures ∙ c.if-is_missing.true in
    c.refusal.ensures.is
    ∙ rw (c.vendor_of.ensures, c.code_of.ensures)
    (sym (missing_next _ _ _ _ c.loop-k.k c.loop-k-test.true c.if-number.false true here)
    ∙ c.loop-k.invariant
    ∙ missing_first _ _ _ _ c.table-table.ensures c.args.grammar list.result list.ensures refl)

pub loop-k-preserved : goal.loop-k-preserved
loop-k-preserved c =
    let here = sym c.is_missing.ensures ∙ c.if-is_missing.false in
    sym (missing_next _ _ _ _ c.loop-k.k c.loop-k-test.true c.if-number.false false here) ∙ c.loop-k.invariant

pub returns : goal.returns
returns c =
    let list = c.list_index-from in
    sym (missing_past _ _ _ _ c.loop-k.k c.loop-k-test.false)
    ∙ c.loop-k.invariant
    ∙ missing_first _ _ _ _ c.table-table.ensures c.args.grammar list.result list.ensures refl
