-- A command's checks in order: its header, its walk, its lists; and what is read of it.
use mathlib.Core.Path.{◌≡◌, refl, sym, ap, ◌∙◌}
use Rattle.std.specs.Prelude.{Err, Ok}
use mathlib.Core.List.{List}
use Prim.Native.Nat.{ℕ, ◌+◌, ◌≤◌, min}
use native.Mathlib.Omega.{arith}
use borrow.Author.Tests.{le-ltb}
use lib.ListN.{length}
use Rattle.rules.specs.declared.Avp.{Avp}
use Rattle.rules.specs.declared.Verdict.{Verdict}
use Rattle.rules.specs.declared.Record.{Record}
use Rattle.rules.specs.declared.Reading.{Reading}
use Rattle.rules.specs.Verdict.{verdict, verdict_of, or_else, Outcome, no_refusal}
use Rattle.rules.specs.Header.{header_outcome}
use Rattle.rules.specs.Walk.{Walked, whole, stopped, avps_of}
use Rattle.rules.specs.declared.Entry.{Entry}
use Rattle.rules.specs.Dictionary.{dictionary}
use Rattle.rules.specs.Command.{command_rules, own_list, walk_by, walk_of, lists_outcome, walked_outcome, command_outcome, command_verdict}
use Rattle.rules.specs.Record.{record_of, empty_record, reading}
use Rattle.rules.proofs.Outcomes.{refused_first, pass_first}
use Rattle.rules.proofs.Header.{headed}
use Rattle.rules.proofs.Walk.{never}
use Rattle.dictionary.specs.Table.{IsTable, dictionary_by}
use Rattle.dictionary.specs.Entries.{entry_of}
use Rattle.dictionary.proofs.Table.{table_same, table_finds, entry_few}
use Rattle.walk_log.specs.Log.{put_all, logged_of, avps_in}
use Rattle.walk_log.specs.Families.{none_logged, logged_from, Keeps, IsForest}
use Rattle.walk_log.proofs.Families.{logged_none, logged_same, kept_avps}
use Rattle.walk.specs.declared.Stopped.{Stopped}
use Rattle.walk.specs.Answer.{Walk, count_of}
use Rattle.walk.specs.Promise.{answer_of, command_walk, number_by, CommandWalked}
use Rattle.walk.proofs.Same.{walk_same}
use Rattle.lists.specs.Exchanges.{lists_by, lists_in}
use Rattle.lists.proofs.Exchanges.{walked_lists}
use Rattle.reader.specs.declared.Judgement.{Judgement}
use Rattle.reader.specs.Promise.{walked_in, outcome_in, met_by, count_by, log_after_by, IsJudgedBy, log_after, IsJudged}

-- the outcome of a walk, by the answer that it gave
walked_whole : (s log : List ℕ) (w : Walked) (c : ℕ) → Ok c ≡ answer_of 0 w
    → walked_in s log w ≡ lists_in (command_rules s) s log (length s) c
walked_whole s log (whole xs) c e =
    let n : c ≡ 0 + length xs = cc in
    ap (lists_in (command_rules s) s log (length s)) (omega (arith, n))
walked_whole s log (stopped xs v) c e = let z : ◌≡◌ {A = ℕ} 0 1 = cc in absurd (omega arith)

walked_stopped : (s log : List ℕ) (w : Walked) (t : Stopped) → Err t ≡ answer_of 0 w → walked_in s log w ≡ Err t.verdict
walked_stopped s log (whole xs) t e = let z : ◌≡◌ {A = ℕ} 0 1 = cc in absurd (omega arith)
walked_stopped s log (stopped xs u) t e = cc

pub verdict_told : (s : List ℕ) (o : Outcome) → o ≡ command_outcome s → verdict_of o ≡ command_verdict s
unfolding command_verdict
verdict_told s o e = ap verdict_of e

count_whole : (w : Walked) (c : ℕ) → Ok c ≡ answer_of 0 w → count_of w ≡ c
count_whole (whole xs) c e = let n : c ≡ 0 + length xs = cc in omega (arith, n)
count_whole (stopped xs v) c e = let z : ◌≡◌ {A = ℕ} 0 1 = cc in absurd (omega arith)

count_stopped : (w : Walked) (t : Stopped) → Err t ≡ answer_of 0 w → count_of w ≡ 0
count_stopped (whole xs) t e = let z : ◌≡◌ {A = ℕ} 0 1 = cc in absurd (omega arith)
count_stopped (stopped xs u) t e = refl

never_whole : {C : Type 0} (t : Stopped) (xs : List Avp) → Err t ≡ answer_of 0 (whole xs) → C
never_whole t xs e = let z : ◌≡◌ {A = ℕ} 0 1 = cc in absurd (omega arith)

or_else_same : (o p q : Outcome) → (o ≡ no_refusal → p ≡ q) → or_else o p ≡ or_else o q
or_else_same (Ok u) p q h = h refl
or_else_same (Err v) p q h = refl

-- ---- the right table

module _ (table : List ℕ) (is : IsTable table) where
  walks_same : (s : List ℕ) → walk_by (dictionary_by table) s ≡ walk_of s
  unfolding walk_of
  walks_same s = walk_same (dictionary_by table) dictionary (table_same table is) s (length s) (own_list s)

  pub numbers_same : (vendor code : ℕ) → number_by table vendor code ≡ entry_of dictionary vendor code
  numbers_same vendor code =
      let few = entry_few vendor code in
      ap (λ (n : ℕ). min n 255) (table_finds table is vendor code) ∙ omega (arith, few)

  met_same : (s : List ℕ) (o : Outcome) → met_by (dictionary_by table) s o ≡ met_by dictionary s o
  unfolding walk_of
  met_same s (Ok u) = ap avps_of (walks_same s)
  met_same s (Err v) = refl

  count_same : (s : List ℕ) (o : Outcome) → count_by (dictionary_by table) s o ≡ count_by dictionary s o
  unfolding walk_of
  count_same s (Ok u) = ap count_of (walks_same s)
  count_same s (Err v) = refl

  log_same : (s before : List ℕ) → log_after_by (dictionary_by table) (number_by table) s before ≡ log_after s before
  unfolding log_after_by log_after
  log_same s before =
      ap (λ (xs : List Avp). put_all before 0 (logged_from (number_by table) 0 xs)) (met_same s (header_outcome s))
      ∙ ap (put_all before 0) (logged_same (number_by table) (entry_of dictionary) numbers_same 0 (met_by dictionary s (header_outcome s)))

  -- by the log of a whole walk the lists are judged as document 01 judges them
  lists_same : (s log : List ℕ) (xs : List Avp) → length xs ≤ 256 → Keeps log (logged_from (number_by table) 0 xs) → IsForest 1 xs
      → lists_in (command_rules s) s log (length s) (length xs) ≡ lists_outcome s xs
  unfolding lists_outcome
  lists_same s log xs few keeps forest =
      let e : min (length xs) 256 ≡ length xs = omega arith in
      let kept : Keeps log (logged_from (entry_of dictionary) 0 xs) =
      rw (logged_same (number_by table) (entry_of dictionary) numbers_same 0 xs) at keeps in
      ap (lists_by (logged_of log) (avps_in log (length xs)) (command_rules s) s (length s)) e
      ∙ ap (λ (ys : List Avp). lists_by (logged_of log) ys (command_rules s) s (length s) (length xs))
      (kept_avps (entry_of dictionary) log xs few kept)
      ∙ walked_lists xs forest few (logged_of log) none_logged kept (command_rules s) s (length s)

  walked_same : (s log : List ℕ) (w : Walked) → ((xs : List Avp) → w ≡ whole xs → lists_in (command_rules s) s log (length s) (length xs) ≡ lists_outcome s xs)
      → walked_in s log w ≡ walked_outcome s w
  walked_same s log (whole xs) h = h xs refl
  walked_same s log (stopped xs v) h = refl

  outcome_same : (s log : List ℕ) → ((xs : List Avp) → header_outcome s ≡ no_refusal → walk_by (dictionary_by table) s ≡ whole xs
      → (length xs ≤ 256) × Keeps log (logged_from (number_by table) 0 xs) × IsForest 1 xs)
      → outcome_in (dictionary_by table) s log ≡ command_outcome s
  unfolding outcome_in command_outcome
  outcome_same s log h =
      or_else_same (header_outcome s) _ _
      (λ pass.
      walked_same s log (walk_by (dictionary_by table) s)
      (λ xs e. let k = h xs pass e in lists_same s log xs k.0 k.1 k.2)
      ∙ ap (walked_outcome s) (walks_same s))

-- ---- by any table

octets : (table : List ℕ) (vendor code : ℕ) → number_by table vendor code ≤ 255
octets table vendor code = omega arith

module _ (table s : List ℕ) where
  abbrev dict : List Entry
  dict = dictionary_by table

  -- a refusal of the header is the answer, and the log is as it was
  pub judged_header : (before : List ℕ) {v : Verdict} → Err v ≡ header_outcome s → IsJudgedBy table s before (record { outcome = Err v; count = 0 }) before
  unfolding outcome_in log_after_by
  judged_header before {v} e =
      let r : header_outcome s ≡ Err v = sym e in
      let all : outcome_in dict s before ≡ Err v = refused_first (header_outcome s) (walked_in s before (walk_by dict s)) r ∙ r in
      record {
        outcome = sym all;
        counted = rw r;
        left = rw (r, logged_none (number_by table) 0);
        right = λ is. sym all ∙ outcome_same table is s before (λ xs pass _. never (sym r ∙ pass));
        long = λ p. never p;
        few = λ p. never p;
        avps = λ p. never p;
      }

  module _ (pass : header_outcome s ≡ no_refusal) where
    pub header_long : 20 ≤ length s
    header_long = (headed s pass).enough

    pub header_short : length s ≤ 16384
    header_short = (headed s pass).within

    walk_of_lem : command_walk dict s ≡ walk_by dict s
    unfolding command_walk
    walk_of_lem = rw (le-ltb 16384 (length s) header_short)

    module _ (before after : List ℕ) (r : Walk) (w : CommandWalked dict (number_by table) s before r after) where
      outcome_of : outcome_in dict s after ≡ walked_in s after (walk_by dict s)
      unfolding outcome_in
      outcome_of = pass_first (header_outcome s) (walked_in s after (walk_by dict s)) pass

      answered : r ≡ answer_of 0 (walk_by dict s)
      answered = rw walk_of_lem at w.answer

      left_by_lem : after ≡ log_after_by dict (number_by table) s before
      unfolding log_after_by
      left_by_lem = rw pass (rw walk_of_lem at w.logged)

      -- the walk stopped at a fault
      pub judged_stopped : (t : Stopped) → r ≡ Err t → IsJudgedBy table s before (record { outcome = Err t.verdict; count = 0 }) after
      judged_stopped t e =
          let stop = sym e ∙ answered in
          let all : outcome_in dict s after ≡ Err t.verdict = outcome_of ∙ walked_stopped s after (walk_by dict s) t stop in
          record {
            outcome = sym all;
            counted = rw pass (sym (count_stopped (walk_by dict s) t stop));
            left = left_by_lem;
            right = λ is. sym all ∙ outcome_same table is s after (λ xs _ u. never_whole t xs (stop ∙ ap (answer_of 0) u));
            long = λ p. never p;
            few = λ p. never p;
            avps = λ p. never p;
          }

      -- the walk is whole, and the lists are judged
      pub judged_whole : (c : ℕ) → r ≡ Ok c → (o : Outcome) → o ≡ lists_in (command_rules s) s after (length s) c
          → IsJudgedBy table s before (record { outcome = o; count = c }) after
      judged_whole c e o q =
          let k = w.read c e in
          let xs : List Avp = avps_of (walk_by dict s) in
          let number : c ≡ length xs = rw walk_of_lem at k.number in
          let kept : Keeps after (logged_from (number_by table) 0 xs) = rw walk_of_lem at (k.kept (octets table)) in
          let forest : IsForest 1 xs = rw walk_of_lem at k.forest in
          let few = w.few c e in
          let all : o ≡ outcome_in dict s after = q ∙ sym (outcome_of ∙ walked_whole s after (walk_by dict s) c (sym e ∙ answered)) in
          record {
            outcome = all;
            counted = rw pass (sym (count_whole (walk_by dict s) c (sym e ∙ answered)));
            left = left_by_lem;
            right = λ is. all ∙ outcome_same table is s after
                (λ ys _ u.
                let same : xs ≡ ys = ap avps_of u in
                (rw (← same, ← number) few, rw (← same) kept, rw (← same) forest));
            long = λ _. header_long;
            few = λ _. few;
            avps = λ _. rw number (kept_avps (number_by table) after xs (omega (arith, few, number)) kept);
          }

-- by the right table, in document 01's terms
pub judged_right : (table : List ℕ) → IsTable table → (s before : List ℕ) {r : Judgement} {after : List ℕ}
    → IsJudgedBy table s before r after → IsJudged s before r after
judged_right table is s before j = record {
  outcome = j.right is;
  told = verdict_told s _ (j.right is);
  counted = j.counted ∙ count_same table is s (header_outcome s);
  left = j.left ∙ log_same table is s before;
  long = j.long;
  few = j.few;
  avps = λ p. j.avps p ∙ ap avps_of (walks_same table is s);
}

-- ---- verdict and record

module _ (s : List ℕ) where
  pub verdict_accepted : command_outcome s ≡ no_refusal → verdict 0 0 0 0 ≡ command_verdict s
  unfolding command_verdict
  verdict_accepted e = rw e

  pub verdict_refused : {v : Verdict} → command_outcome s ≡ Err v → v ≡ command_verdict s
  unfolding command_verdict
  verdict_refused e = rw e

  pub read_accepted : command_outcome s ≡ no_refusal → (v : Verdict) (r : Record) → v ≡ verdict 0 0 0 0 → r ≡ record_of s (avps_of (walk_of s))
      → ◌≡◌ {A = Reading} (record { verdict = v; «record» = r }) (reading s)
  unfolding reading
  read_accepted e v r p q = rw (p, q, verdict_accepted e, e)

  pub read_refused : {v : Verdict} → command_outcome s ≡ Err v → (r : Record) → r ≡ empty_record
      → ◌≡◌ {A = Reading} (record { verdict = v; «record» = r }) (reading s)
  unfolding reading
  read_refused e r q = rw (q, verdict_refused e, e)
