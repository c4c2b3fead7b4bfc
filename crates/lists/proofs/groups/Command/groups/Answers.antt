-- `lists::groups::Command::groups` meets its contract. The invariant says what is left: the groups from position `i` on,
-- with the number of policies and the first faults of policies and windows so far.
use borrow.Author.Rules.{rules}
use mathlib.Core.Path.{◌≡◌, refl, sym, ap, ◌∙◌}
use Rattle.std.specs.Prelude.{Option, Some}
use mathlib.Core.Bool.{cond}
use mathlib.Core.List.{List}
use Prim.Native.Nat.{ℕ, ◌+◌, min}
use Rattle.rules.specs.declared.Grammar.{Grammar}
use Rattle.rules.specs.Verdict.{or_else, no_refusal}
use Rattle.rules.specs.Avp.{end_of}
use Rattle.rules.specs.Dictionary.{dictionary, members_of}
use Rattle.dictionary.specs.Entries.{definition_at}
use Rattle.walk_log.specs.Log.{logged_of, avp_of, entry_at, after_at, avps_in}
use Rattle.exchange.specs.Firsts.{find_in}
use Rattle.lists.specs.ByLog.{list_by, group_at}
use Rattle.lists.specs.Exchanges.{is_policy, as_policy, as_window, policy_logged, window_logged}
use Rattle.lists.proofs.Members.{policies_none, policies_next, policies_other, policies_all, reached_none, reached_next, reached_pass, reached_all, reached_fault}
use Rattle.lists.proofs.Members.{no_rows, not_policy, no_policy, no_window, passed_refused, passed_all, groups_refused, groups_passed}
use Rattle.lists.proofs.groups.Command.groups.Goals as goal

-- a group: what its rows say
rows_at : (log : List ℕ) (count i : ℕ) (g : Grammar) (entry next to end : ℕ) (m : Option Grammar)
    → entry ≡ entry_at log i → m ≡ members_of (definition_at dictionary entry) → m ≡ Some g
    → next ≡ after_at log i → to ≡ min next count → end ≡ end_of (avp_of log i)
    → list_by (logged_of log) g end (i + 1) to ≡ group_at (logged_of log) count i
rows_at log count i g entry next to end m number members group after last ends =
    rw (← number, sym members ∙ group, ← after, ← last, ← ends)

pub loop-i-init : goal.loop-i-init
loop-i-init c =
    (policies_none _ _, reached_none _ _, reached_none _ _, reached_none _ _)

-- no group
pub loop-i-preserved-in_default : goal.loop-i-preserved-in_default
loop-i-preserved-in_default c =
    let l = c.loop-i in
    let s = c.args.self in
    let at = logged_of s.log.now in
    let none = sym (rw c.entry_at.ensures at c.members_of.ensures.is) ∙ c.in_default.is in (
      policies_other _ _ _ _ l.invariant.0 c.loop-i-test.true (not_policy at s.count l.i none),
      reached_pass _ _ no_refusal _ l.invariant.1 c.loop-i-test.true (no_rows at s.count l.i none),
      reached_pass _ _ l.groups.policies _ l.invariant.2 c.loop-i-test.true (no_policy at s.count l.i none),
      reached_pass _ _ l.groups.windows _ l.invariant.3 c.loop-i-test.true (no_window at s.count l.i none _ _),
    )

pub returns-in_err-firsts : goal.returns-in_err-firsts
returns-in_err-firsts c =
    let s = c.args.self in
    let refused = passed_refused _ _ _ (sym c.judge.ensures ∙ c.in_err-firsts.was) in
    let said = rows_at s.log.now s.count c.loop-i.i _ _ _ _ _ _ c.entry_at.ensures c.members_of.ensures.is c.in-Some.is
    c.after_at.ensures c.min.ensures c.data_end.ensures in
    let reached = reached_next _ _ no_refusal _ _ c.loop-i.invariant.1 c.loop-i-test.true said in
    groups_refused _ _ _ _ _ _ (sym (reached_fault _ _ _ _ reached refused) ∙ refused) (search rules)

pub loop-i-preserved : goal.loop-i-preserved
unfolding policy_logged window_logged
loop-i-preserved c =
    let l = c.loop-i in
    let s = c.args.self in
    let at = logged_of s.log.now in
    let passed = passed_all _ _ _ (sym c.judge.ensures ∙ c.in_ok-firsts.was) in
    let said = rows_at s.log.now s.count l.i _ _ _ _ _ _ c.entry_at.ensures c.members_of.ensures.is c.in-Some.is
    c.after_at.ensures c.min.ensures c.data_end.ensures in
    let is = rw (c.min.ensures, c.after_at.ensures) at (sym passed.1) in
    let number : c.from.result ≡ cond (is_policy (at l.i)) 1 0 = rw (← c.is_policy.ensures) (search rules) in
    let policy : c.with_policy.result ≡ or_else l.groups.policies (policy_logged at s.count l.i) =
    c.with_policy.ensures
    ∙ ap (λ (firsts : List ℕ). or_else l.groups.policies (as_policy (find_in firsts s.count) (at l.i))) is in
    let avps = avps_in s.log.now s.count in
    let window : c.with_window.result ≡ or_else l.groups.windows (window_logged at avps s.s.now s.count l.i) =
    c.with_window.ensures
    ∙ ap (λ (firsts : List ℕ). or_else l.groups.windows (as_window (find_in firsts s.count) avps s.s.now (at l.i))) is in (
      rw number (policies_next _ _ l.groups.number l.i l.invariant.0 c.loop-i-test.true),
      rw passed.0 at (reached_next _ _ no_refusal _ l.i l.invariant.1 c.loop-i-test.true said),
      rw policy (reached_next _ _ l.groups.policies _ l.i l.invariant.2 c.loop-i-test.true refl),
      rw window (reached_next _ _ l.groups.windows _ l.i l.invariant.3 c.loop-i-test.true refl),
    )

pub returns : goal.returns
returns c =
    let l = c.loop-i in
    let past = c.loop-i-test.false in
    groups_passed _ _ _ _ l.groups
    (sym (reached_all _ _ no_refusal _ l.invariant.1 past))
    (policies_all _ _ l.groups.number _ l.invariant.0 past)
    (reached_all _ _ l.groups.policies _ l.invariant.2 past)
    (reached_all _ _ l.groups.windows _ l.invariant.3 past)
