-- Request [1]: answers with E. Which command flags the header lets through, which exchange rules apply, and which such
-- answers are accepted. The claims stand in rules/specs/ErrorAnswers.
use mathlib.Core.Path.{◌≡◌, refl, sym, ap, ◌∙◌}
use mathlib.Core.Bool.{false, and-false}
use mathlib.Core.Logic.{◌↔◌}
use mathlib.Core.List.{List}
use Prim.Native.Nat.{ℕ}
use lib.ListN.{length}
use Rattle.rules.specs.declared.Avp.{Avp}
use Rattle.rules.specs.Verdict.{reader_numbers, writer_only_numbers, is_among, verdict, or_else, no_refusal}
use Rattle.rules.specs.Header.{vendor_3gpp, command_flags, is_request, is_proxiable, length_outcome, application_outcome, flags_outcome, header_outcome}
use Rattle.rules.specs.Avp.{place_of}
use Rattle.rules.specs.Walk.{whole}
use Rattle.rules.specs.RowChecks.{list_outcome, rows_outcome}
use Rattle.rules.specs.Search.{avp_in}
use Rattle.rules.specs.Exchange.{exchange_by}
use Rattle.rules.specs.Command.{of_error_answer, rules_by, command_rules, walk_of, lists_outcome, command_verdict}
use Rattle.rules.specs.Demands.{AcceptedCommand}
use Rattle.rules.specs.Order.{own_rows, group_rows, exchange, windows}
use Rattle.rules.specs.Windows.{RightBefore, WrongWindow}
use Rattle.rules.specs.ErrorAnswers.{FlagsJudged, KindsJudged, IsErrorAnswer, MeetsGeneralForm}
use Rattle.rules.proofs.Header.{flags_error_request, flags_proxiable, flags_error_answer, flags_not_proxiable}
use Rattle.rules.proofs.Outcomes.{both_pass}
use Rattle.rules.proofs.Walk.{by_cases}
use Rattle.rules.proofs.Commands.{passed_command}
use Rattle.rules.proofs.demands.Demands.{demand_2_accepted}
use Rattle.rules.proofs.demands.Windows.{pass_all_right, request_5_refused, request_5_accepted}

-- ---- the header

-- where length, version, application and command code pass, the command flags are the answer
by_flags : (c : List ℕ) → length_outcome c ≡ no_refusal → application_outcome c ≡ no_refusal → header_outcome c ≡ flags_outcome (command_flags c)
unfolding header_outcome
by_flags c long known = rw (long, known)

-- 02 [1]: "P may be clear here [...] 3008 for a clear P only without E or with R", and R with E is 3008, as in 01.
-- Carried by the laws of the command flags (rules/proofs/Header); the four cases are all that there are.
-- Ruled out: a reader that refuses a clear P with E; one that reads a request with E as an error answer.
pub request_1_flags : (c : List ℕ) → length_outcome c ≡ no_refusal → application_outcome c ≡ no_refusal → FlagsJudged c
request_1_flags c long known =
    let f = command_flags c in
    let by = by_flags c long known in
    record {
      both = λ request error. by ∙ flags_error_request f (rw (request, error));
      clear = λ clear none. by ∙ flags_not_proxiable f (rw none (and-false (is_request f))) clear none;
      error_answer_lem = λ answer error.
          by
          ∙ by_cases (is_proxiable f) (λ set. flags_proxiable f (rw answer) set)
          (λ clear. flags_error_answer f (rw answer) clear error);
      proxiable = λ set none. by ∙ flags_proxiable f (rw none (and-false (is_request f))) set;
    }

-- ---- what a command is judged by

-- 02 [1]: "Judge an answer with E by the general form": that answer alone. A request and an answer without E are judged
-- by 01's rows and exchange rules, whatever P and T.
-- Carried by the definition of rules_by alone.
-- Ruled out: a reader that judges an answer without E by the general form; one that takes T for E.
pub request_1_kinds : (c : List ℕ) → KindsJudged c
unfolding rules_by
request_1_kinds c =
    record {
      request = λ r. rw r;
      answer = λ a none. rw (a, none);
      error_answer_lem = λ a error. rw (a, error);
    }

-- 02 [1]: "7005 is no longer given": it is no number of the reader's table, nor of the writer's own.
-- Carried by the table; demand_1_reader_number and demand_1_writer_number say that no other number is given.
-- Ruled out: a reader that answers an error answer with 7005; a writer that does.
pub request_1_number : (is_among reader_numbers 7005 ≡ false) × (is_among writer_only_numbers 7005 ≡ false)
unfolding reader_numbers writer_only_numbers
request_1_number = (refl, refl)

module _ (c : List ℕ) (is : IsErrorAnswer c) where
  header_passes : header_outcome c ≡ no_refusal
  header_passes = (request_1_flags c is.long is.known).error_answer_lem is.not_request is.with_error

  rules : command_rules c ≡ of_error_answer
  rules = (request_1_kinds c).error_answer_lem is.not_request is.with_error

  -- 02 [1]: "Of the exchange rules only the window rule applies": the others pass, whatever its AVPs are.
  -- Carried by request_1_kinds and the definition of by_command.
  -- Ruled out: a reader that asks for 4202 beside a 4207; one that refuses 297 beside 268.
  pub request_1_rules : (xs : List Avp) → exchange c xs ≡ no_refusal
  request_1_rules xs = rw rules

  own_rows_lem : (xs : List Avp) → own_rows c xs ≡ list_outcome of_error_answer.rows 1 (length c) xs
  own_rows_lem xs = rw rules

  -- ---- which are accepted

  accepts : (xs : List Avp) → MeetsGeneralForm c xs → AcceptedCommand c
  accepts xs m =
      ap (λ v. v.number)
      (request_5_accepted c xs header_passes m.walk (own_rows_lem xs ∙ m.own) m.groups (request_1_rules xs) m.windows)

  meets_form : AcceptedCommand c → (xs : List Avp) × MeetsGeneralForm c xs
  unfolding lists_outcome rows_outcome exchange_by
  meets_form a =
      let p = passed_command c ((demand_2_accepted c).0 a) in
      let xs = p.avps in
      let lists = both_pass (or_else (own_rows c xs) (group_rows c xs)) _ p.lists in
      let rows = both_pass (own_rows c xs) (group_rows c xs) lists.0 in
      let times = both_pass (exchange c xs) (windows c xs) lists.1 in (
        xs,
        record {
          walk = p.walk;
          own = sym (own_rows_lem xs) ∙ rows.0;
          groups = rows.1;
          windows = pass_all_right c xs times.1;
        },
      )

  -- 02 [1]: "Judge an answer with E by the general form of RFC 6733 clause 7.2", its groups by their rows and its windows
  -- by the window rule: such an answer is accepted exactly if it meets them, whatever P and T.
  -- Carried by request_1_flags, request_1_rules, demand_2_accepted, passed_command (rules/proofs/Commands),
  -- request_5_accepted and pass_all_right (Windows).
  -- Which rows the general form has, the computed answers say (rules/proofs/ErrorEdges).
  -- Ruled out: a reader that judges such an answer by the rows of an answer without E; one that lets its windows pass.
  pub request_1_accepted : AcceptedCommand c ↔ ((xs : List Avp) × MeetsGeneralForm c xs)
  request_1_accepted = (meets_form, λ m. accepts m.0 m.1)

  -- And where only its windows are at fault, the first wrong one in walk order is refused at its 4205.
  -- Carried by request_1_flags, request_1_rules and request_5_refused (Windows).
  -- Ruled out: a reader that judges only the windows of requests and of answers without E; one that judges those at
  -- depth 1 alone.
  pub request_1_window : (xs : List Avp) → walk_of c ≡ whole xs → own_rows c xs ≡ no_refusal → group_rows c xs ≡ no_refusal
      → (k j : ℕ) → RightBefore c xs k → WrongWindow c xs k j
      → command_verdict c ≡ verdict 5004 (place_of (avp_in xs j)) vendor_3gpp 4205
  request_1_window xs walk own groups = request_5_refused c xs header_passes walk own groups (request_1_rules xs)
