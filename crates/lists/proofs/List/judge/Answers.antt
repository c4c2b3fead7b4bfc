-- `lists::List::judge` meets its contract. The invariant says what is left: the members from position `i` on, with the
-- row counts so far, each at most the number of positions passed.
use mathlib.Core.Path.{◌≡◌, sym, ap, ◌∙◌}
use borrow.Author.Rules.{rules}
use Rattle.std.specs.Prelude.{Option, None, Result, Ok, Err}
use Rattle.rules.specs.declared.Verdict.{Verdict}
use mathlib.Core.Bool.{Bool, false}
use mathlib.Core.List.{List}
use Prim.Native.Nat.{ℕ, ◌≤◌, ◌<◌}
use native.Mathlib.Omega.{arith}
use Rattle.rules.specs.declared.Avp.{Avp}
use Rattle.rules.specs.declared.Grammar.{Grammar}
use Rattle.rules.specs.declared.Admission.{Admission}
use Rattle.rules.specs.Verdict.{or_else, Outcome}
use Rattle.rules.specs.Rows.{admits_others}
use Rattle.rules.specs.RowChecks.{counted, by_admission, by_row}
use Rattle.rules.specs.Walk.{most_avps}
use Rattle.rules.proofs.Outcomes.{refused_first, pass_first}
use Rattle.walk_log.specs.Log.{Logged, logged_of, avp_of, entry_at, after_at}
use Rattle.walk_log.proofs.Log.{after_behind}
use Rattle.lists.specs.ByLog.{admission_at, list_by}
use Rattle.lists.specs.Firsts.{list_in}
use Rattle.lists.specs.Tables.{for_member}
use Rattle.lists.proofs.Counts.{counted_at_most}
use Rattle.lists.proofs.Members.{left_by, members_next, members_none}
use Rattle.lists.proofs.Noted.{firsts_none, firsts_next}
use Rattle.lists.proofs.List.judge.Goals as goal

module _ (log : List ℕ) (to : ℕ) (few : to ≤ most_avps) where
  -- each member of the list has the next one behind it
  on : (i : ℕ) → i < to → i < after_at log i
  on i h = after_behind log i (omega arith)

  -- the positions: the next member stands behind this one
  onward : (i next : ℕ) → i < to → next ≡ after_at log i → i < next
  onward i next here after = omega (arith, on i here)

  -- what is left, with the row that names the member, what that says, and its count
  member : (i : ℕ) → i < to → (a : Avp) (entry next : ℕ)
      → a ≡ avp_of log i → entry ≡ entry_at log i → next ≡ after_at log i
      → (g : Grammar) (end : ℕ) (counts : List ℕ) (first : Bool) (m : Option Admission) (o : Outcome)
      → m ≡ for_member (admission_at g entry) → o ≡ by_admission (admits_others g) counts first a m
      → or_else o (left_by (logged_of log) to g end (counted counts m) false next)
      ≡ left_by (logged_of log) to g end counts first i
  member i here a entry next avp number after g end counts first m o p q =
      let l : Logged = record { avp = a; entry = entry; after = next } in
      let is : l ≡ logged_of log i = rw (avp, number, after) in
      sym (members_next (logged_of log) to on g end counts first i here l m o is p q)

  -- a refusal of a member is the list's, whatever is left
  refused : (g : Grammar) (end from : ℕ) (o p : Outcome) (v : Verdict) (r : Result (List ℕ) Verdict) → o ≡ Err v → r ≡ Err v
      → or_else o p ≡ list_by (logged_of log) g end from to → r ≡ list_in (logged_of log) g end from to
  refused g end from o p v r e f is =
      let said : list_by (logged_of log) g end from to ≡ Err v = sym is ∙ refused_first o p e ∙ e in
      rw said f

-- a member without row
pub returns-in_err-without_row : goal.returns-in_err-without_row
returns-in_err-without_row c =
    let a = c.args.self.now in
    let l = c.loop-i in
    let left = member a.log.now a.to a.in_record l.i c.loop-i-test.true _ _ _ c.get-a.ensures
    c.entry_at-entry.ensures c.after_at-i.ensures a.grammar a.end l.counts l.first None _
    (sym c.in_default.is ∙ c.row_of.ensures.is) c.without_row.ensures in
    refused a.log.now a.to a.in_record _ _ _ _ _ _ _ c.in_err-without_row.was (search rules) (left ∙ l.invariant.1)

pub loop-i-smaller-in_default : goal.loop-i-smaller-in_default
loop-i-smaller-in_default c =
    let a = c.args.self.now in
    omega (arith, onward a.log.now a.to a.in_record _ _ c.loop-i-test.true c.after_at-i.ensures)

pub loop-i-preserved-in_default : goal.loop-i-preserved-in_default
loop-i-preserved-in_default c =
    let a = c.args.self.now in
    let l = c.loop-i in
    let step = onward a.log.now a.to a.in_record l.i c.after_at-i.result c.loop-i-test.true c.after_at-i.ensures in
    let left = member a.log.now a.to a.in_record l.i c.loop-i-test.true _ _ _ c.get-a.ensures
    c.entry_at-entry.ensures c.after_at-i.ensures a.grammar a.end l.counts l.first None _
    (sym c.in_default.is ∙ c.row_of.ensures.is) c.without_row.ensures in
    let noted = firsts_next (logged_of a.log.now) a.to (on a.log.now a.to a.in_record) l.i l.firsts
    c.loop-i-test.true _ _ c.entry_at-entry.ensures c.after_at-i.ensures in (
      λ row. omega (arith, l.invariant.0 row, step),
      sym (pass_first _ _ c.in_ok-without_row.was) ∙ left ∙ l.invariant.1,
      rw c.note.ensures (sym noted ∙ l.invariant.2),
    )

-- a member with a row
pub returns-in_err-by_mark : goal.returns-in_err-by_mark
returns-in_err-by_mark c =
    let a = c.args.self.now in
    let l = c.loop-i in
    let left = member a.log.now a.to a.in_record l.i c.loop-i-test.true _ _ _ c.get-a.ensures
    c.entry_at-entry.ensures c.after_at-i.ensures a.grammar a.end l.counts l.first (by_row _ _) _
    (sym c.in-Some.is ∙ c.row_of.ensures.is) c.by_mark.ensures in
    refused a.log.now a.to a.in_record _ _ _ _ _ _ _ c.in_err-by_mark.was (search rules) (left ∙ l.invariant.1)

pub loop-i-smaller : goal.loop-i-smaller
loop-i-smaller c =
    let a = c.args.self.now in
    omega (arith, onward a.log.now a.to a.in_record _ _ c.loop-i-test.true c.after_at-i.ensures)

pub loop-i-preserved : goal.loop-i-preserved
loop-i-preserved c =
    let a = c.args.self.now in
    let l = c.loop-i in
    let step = onward a.log.now a.to a.in_record l.i c.after_at-i.result c.loop-i-test.true c.after_at-i.ensures in
    let left = member a.log.now a.to a.in_record l.i c.loop-i-test.true _ _ _ c.get-a.ensures
    c.entry_at-entry.ensures c.after_at-i.ensures a.grammar a.end l.counts l.first (by_row _ _) _
    (sym c.in-Some.is ∙ c.row_of.ensures.is) c.by_mark.ensures in
    let more = counted_at_most l.counts (by_row c.in-Some.field-0.row c.in-Some.field-0.mark) l.i l.invariant.0 in
    let noted = firsts_next (logged_of a.log.now) a.to (on a.log.now a.to a.in_record) l.i l.firsts
    c.loop-i-test.true _ _ c.entry_at-entry.ensures c.after_at-i.ensures in (
      rw c.counted-counts.ensures (λ row. omega (arith, more row, step)),
      rw c.counted-counts.ensures (sym (pass_first _ _ c.in_ok-by_mark.was) ∙ left ∙ l.invariant.1),
      rw c.note.ensures (sym noted ∙ l.invariant.2),
    )

pub returns-in_err-missing_row : goal.returns-in_err-missing_row
returns-in_err-missing_row c =
    let none = members_none _ _ _ _ _ _ _ c.loop-i-test.false in
    let said = sym c.loop-i.invariant.1 ∙ none ∙ sym c.missing_row.ensures ∙ c.in_err-missing_row.was in
    rw said (search rules)

pub returns : goal.returns
returns c =
    let past = c.loop-i-test.false in
    let none = members_none _ _ _ _ _ _ _ past in
    let said = sym c.loop-i.invariant.1 ∙ none ∙ sym c.missing_row.ensures ∙ c.in_ok-missing_row.was in
    rw said (ap Ok (sym (firsts_none _ _ _ _ _ past) ∙ c.loop-i.invariant.2))
