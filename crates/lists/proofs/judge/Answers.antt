-- `lists::judge` meets its contract.
use borrow.Author.Rules.{rules as found}
use mathlib.Core.Path.{◌≡◌, sym, ap, ◌∙◌}
use Rattle.std.specs.Prelude.{Err}
use mathlib.Core.List.{List}
use Prim.Native.Nat.{ℕ, min}
use native.Mathlib.Nat.{sub-zero}
use native.Mathlib.Omega.{arith}
use Rattle.rules.specs.declared.Avp.{Avp}
use Rattle.rules.specs.declared.CommandRules.{CommandRules}
use Rattle.rules.specs.Walk.{most_avps}
use Rattle.rules.proofs.Outcomes.{answers}
use Rattle.walk_log.specs.Log.{logged_of, avps_in}
use Rattle.walk_log.proofs.Log.{avps_used}
use Rattle.lists.specs.Exchanges.{lists_by, lists_in}
use Rattle.lists.proofs.Members.{passed_refused, passed_all, own_refused, group_refused, rows_passed}
use Rattle.lists.proofs.judge.Goals as goal

-- what is asked, by the AVPs that are used
used : (log : List ℕ) (rules : CommandRules) (s : List ℕ) (end count n : ℕ) → n ≡ min count most_avps
    → lists_by (logged_of log) (avps_in log n) rules s end n ≡ lists_in rules s log end count
used log rules s end count n e =
    let same = ap (avps_in log) e ∙ avps_used log count in
    ap (λ (xs : List Avp). lists_by (logged_of log) xs rules s end n) same
    ∙ ap (lists_by (logged_of log) (avps_in log count) rules s end) e

pub returns-in_err-firsts : goal.returns-in_err-firsts
returns-in_err-firsts c =
    let a = c.args in
    let asked = used a.log.now a.rules a.s.now a.end a.count _ c.used-count.ensures in
    let refused : c.from_residual.result ≡ Err c.in_err-firsts.field-0.0 = search found in
    let own = passed_refused _ _ _ (sym c.judge.ensures ∙ c.in_err-firsts.was) in
    answers _ _ _ (refused ∙ own_refused _ _ _ _ _ _ _ own ∙ asked)

pub returns-in_err-groups : goal.returns-in_err-groups
returns-in_err-groups c =
    let a = c.args in
    let asked = used a.log.now a.rules a.s.now a.end a.count _ c.used-count.ensures in
    let refused : c.from_residual-in_err-groups.result ≡ Err c.in_err-groups.field-0.0 = search found in
    let own = passed_all _ _ _ (sym c.judge.ensures ∙ c.in_ok-firsts.was) in
    answers _ _ _ (refused ∙ group_refused _ _ _ _ _ _ own.0 _ c.groups.ensures _ c.in_err-groups.was ∙ asked)

pub returns : goal.returns
returns c =
    let a = c.args in
    let asked = used a.log.now a.rules a.s.now a.end a.count _ c.used-count.ensures in
    let own = passed_all _ _ _ (sym c.judge.ensures ∙ c.in_ok-firsts.was) in
    let few : min c.used-count.result most_avps ≡ c.used-count.result = omega (arith, c.used-count.ensures) in
    let firsts = rw (sub-zero c.used-count.result) at (sym own.1) in
    answers _ _ _
    ((rw (few, firsts) at c.judge-2.ensures.is)
    ∙ rows_passed _ _ _ _ _ _ own.0 _ c.groups.ensures c.in_ok-groups.groups c.in_ok-groups.was
    ∙ asked)
