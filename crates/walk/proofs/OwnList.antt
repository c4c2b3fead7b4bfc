-- The promise of a command's walk: what its own list gives, and what is read back from the log.
use mathlib.Core.Path.{◌≡◌, refl, sym, ap, ◌∙◌}
use Rattle.std.specs.Prelude.{Err, Ok}
use mathlib.Core.List.{List, []}
use Prim.Native.Nat.{ℕ, ◌+◌, ◌≤◌, ◌<◌}
use native.Mathlib.Omega.{arith}
use borrow.Author.Tests.{lt-ltb, le-ltb}
use lib.ListN.{length}
use Rattle.rules.specs.Verdict.{verdict, verdict_of}
use Rattle.rules.specs.declared.Entry.{Entry}
use Rattle.rules.specs.Walk.{Walked, whole, stopped, avps_of, stop_of, walk_list}
use Rattle.rules.specs.Command.{own_list}
use Rattle.rules.proofs.Walk.{list_end}
use Rattle.walk_log.specs.Log.{put_all}
use Rattle.walk_log.specs.Families.{logged_from}
use Rattle.walk_log.proofs.Kept.{kept}
use Rattle.walk_log.proofs.Families.{Ending, length-logged, logged_none, logged_fits}
use Rattle.walk.specs.Answer.{Walk, stop, verdict_of_walk, count_of_walk, count_of}
use Rattle.walk.specs.Promise.{answer_of, command_walk, ListWalked, IsKept, CommandWalked}
use Rattle.walk.proofs.Depths.{list_inside, list_grown, whole_forest}

-- the answer by 01's number and values
told_walk : (w : Walked) → verdict_of_walk (answer_of 0 w) ≡ verdict_of (stop_of w)
told_walk (whole xs) = refl
told_walk (stopped xs v) = refl

counted_walk : (w : Walked) → count_of_walk (answer_of 0 w) ≡ count_of w
counted_walk (whole xs) = omega arith
counted_walk (stopped xs v) = refl

module _ (dict : List Entry) (entry : ℕ → ℕ → ℕ) (s : List ℕ) where
  long_command : 16384 < length s → command_walk dict s ≡ stopped [] (verdict 7001 1 0 0)
  unfolding command_walk
  long_command h = rw (lt-ltb 16384 (length s) h)

  -- what was put into a log
  abbrev Put : List ℕ → List ℕ → Type 0
  Put before log = log ≡ put_all before 0 (logged_from entry 0 (avps_of (command_walk dict s)))

  module _ (short : length s ≤ 16384) where
    command_walk_lem : command_walk dict s ≡ walk_list (length s) dict s (own_list s)
    unfolding command_walk
    command_walk_lem = rw (le-ltb 16384 (length s) short)

    no_list : length s < 20 → command_walk dict s ≡ whole []
    no_list h = command_walk_lem ∙ list_end (length s) dict s (own_list s) (omega arith)

    command_ends : Ending (length s) (avps_of (command_walk dict s))
    command_ends = rw command_walk_lem (list_inside dict (length s) (length s) s (own_list s) (omega arith)).ends

    -- a whole walk of at most 256 AVPs is read back from its log
    read_back : (before log : List ℕ) → length before ≡ 2304 → Put before log
        → (c : ℕ) → c ≤ 256 → (w : Walked) → command_walk dict s ≡ w → Ok c ≡ answer_of 0 w → IsKept dict entry s log c
    read_back before log room put c few (whole xs) e q =
        let n : c ≡ length xs = omega (arith, whole_count) in
        let more = length-logged entry 0 xs in
        record {
          number = rw e n;
          kept = λ octets.
              rw (put, e)
              (kept (logged_from entry 0 xs) before room (omega (arith, more, few, n))
              (logged_fits entry octets (length s) (omega arith) 0 xs (omega (arith, few, n)) (rw e at command_ends)));
          forest = rw e (whole_forest 1 (command_walk dict s) xs e (rw command_walk_lem (list_grown dict (length s) s (own_list s))));
        }
      where
        whole_count : c ≡ 0 + length xs
        whole_count = cc
    read_back before log room put c few (stopped xs v) e q = let z : ◌≡◌ {A = ℕ} 0 1 = cc in absurd (omega arith)

    pub command_walked : (before log : List ℕ) (r : Walk) → length before ≡ 2304
        → ListWalked dict entry s (own_list s) before r log → CommandWalked dict entry s before r log
    command_walked before log r room l =
        let answer : r ≡ answer_of 0 (command_walk dict s) = rw command_walk_lem (l.answer (length s) (omega arith)) in
        let put : Put before log = rw command_walk_lem (l.logged (length s) (omega arith)) in
        record {
          told = ap verdict_of_walk answer ∙ told_walk (command_walk dict s);
          counted = ap count_of_walk answer ∙ counted_walk (command_walk dict s);
          answer = answer;
          logged = put;
          few = l.within;
          read = λ c e. read_back before log room put c (l.within c e) (command_walk dict s) refl (sym e ∙ answer);
        }

    pub none_walked : (before : List ℕ) → length before ≡ 2304 → length s < 20 → CommandWalked dict entry s before (Ok 0) before
    none_walked before room h =
        let answer : Ok 0 ≡ answer_of 0 (command_walk dict s) = rw (no_list h) in
        let put : Put before before = rw (no_list h, logged_none entry 0) in
        record {
          told = ap verdict_of_walk answer ∙ told_walk (command_walk dict s);
          counted = ap count_of_walk answer ∙ counted_walk (command_walk dict s);
          answer = answer;
          logged = put;
          few = λ c e. let n : 0 ≡ c = cc in omega arith;
          read = λ c e.
              let n : 0 ≡ c = cc in
              read_back before before room put c (omega arith) (command_walk dict s) refl (sym e ∙ answer);
        }

  pub refused_walked : (before : List ℕ) → 16384 < length s → CommandWalked dict entry s before (Err (stop 0 (verdict 7001 1 0 0))) before
  refused_walked before h = record {
    told = rw (long_command h);
    counted = rw (long_command h);
    answer = rw (long_command h);
    logged = rw (long_command h, logged_none entry 0);
    few = λ c e. let z : ◌≡◌ {A = ℕ} 0 1 = cc in absurd (omega arith);
    read = λ c e. let z : ◌≡◌ {A = ℕ} 0 1 = cc in absurd (omega arith);
  }
