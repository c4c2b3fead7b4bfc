-- Request [5]: the windows of a command. Which are right, and which one's fault comes back, with place, vendor and
-- code. The claims stand in rules/specs/Windows.
use mathlib.Core.Path.{◌≡◌, refl, sym, ◌∙◌}
use Rattle.std.specs.Prelude.{Option, Some, None}
use mathlib.Core.Bool.{true, false}
use mathlib.Core.List.{List}
use Prim.Native.Nat.{ℕ, zero, suc, ◌+◌, ◌≤◌, ◌<◌}
use native.Mathlib.Omega.{arith}
use borrow.Author.Tests.{eq-eqb, eqb-true}
use lib.Dec.{eqb}
use lib.IntN.{ℤ, pos}
use lib.ListN.{length, drop, drop_of_length-le}
use lib.Seq.{drop-cons}
use lib.Signed.{lt_z, ◌≤ℤ◌, ◌<ℤ◌, clash_ℤ}
use Rattle.rules.specs.declared.Avp.{Avp}
use Rattle.rules.specs.Octets.{number_at}
use Rattle.rules.specs.Verdict.{refused, or_else, verdict, Outcome, no_refusal}
use Rattle.rules.specs.Header.{vendor_3gpp, header_outcome}
use Rattle.rules.specs.Avp.{named, place_of, end_of}
use Rattle.rules.specs.Dictionary.{dictionary}
use Rattle.rules.specs.Walk.{whole}
use Rattle.rules.specs.RowChecks.{rows_outcome}
use Rattle.rules.specs.Search.{blank, avp_in, member}
use Rattle.rules.specs.Times.{is_before}
use Rattle.rules.specs.Exchange.{times_by, window_by, window_in, window_at, each_window, exchange_by}
use Rattle.rules.specs.Command.{command_rules, walk_of, lists_outcome, command_verdict}
use Rattle.rules.specs.Demands.{AcceptedCommand}
use Rattle.rules.specs.Order.{own_rows, group_rows, exchange, windows}
use Rattle.rules.specs.Windows.{IsWindow, Window, seconds_of, RightWindow, WrongWindow, RightBefore, AllRight}
use Rattle.rules.proofs.Tests.{and_true}
use Rattle.rules.proofs.Outcomes.{both_pass}
use Rattle.rules.proofs.Walk.{by_cases, never}
use Rattle.rules.proofs.Commands.{passed_command}
use Rattle.rules.proofs.demands.Demands.{demand_2_accepted}
use Rattle.rules.proofs.demands.Found.{member_first}
use Rattle.rules.proofs.demands.Order.{demand_2_first_fault}
use Rattle.rules.proofs.demands.Times.{request_5_right}
use Rattle.rules.proofs.demands.Volumes.{named_fault}

-- ---- a window by its number of seconds

above_test : (number : ℤ) → pos 0 <ℤ number → lt_z (pos 0) number ≡ true
above_test number h = by_cases (lt_z (pos 0) number) (λ e. e) (λ e. absurd (rw e at h.lt))

not_above_test : (number : ℤ) → number ≤ℤ pos 0 → lt_z (pos 0) number ≡ false
not_above_test number h = by_cases (lt_z (pos 0) number) (λ e. clash_ℤ {a = pos 0} (record { lt = rw e tt }) h) (λ e. e)

module _ (c : List ℕ) (xs : List Avp) (k : ℕ) where
  abbrev inner : ℕ
  inner = (avp_in xs k).depth + 1

  window_named : IsWindow xs k → named (avp_in xs k) vendor_3gpp 4204 ≡ true
  window_named w = rw (eq-eqb (avp_in xs k).vendor vendor_3gpp w.0, eq-eqb (avp_in xs k).code 4204 w.1)

  named_window : named (avp_in xs k) vendor_3gpp 4204 ≡ true → IsWindow xs k
  named_window e =
      let x = and_true (eqb (avp_in xs k).vendor vendor_3gpp) (eqb (avp_in xs k).code 4204) e in
      (eqb-true _ _ x.0, eqb-true _ _ x.1)

  module _ (i j : ℕ) where
    order_is : is_before (number_at 4 c (avp_in xs i).start) (number_at 4 c (avp_in xs j).start)
        ≡ lt_z (pos 0) (seconds_of c xs i j)
    order_is = request_5_right _ _

    module _ (w : Window xs k i j) where
      by_times : window_at xs c k (avp_in xs k) ≡ times_by xs c i j
      unfolding window_in
      by_times =
          rw (
            window_named w.window,
            (member_first xs k vendor_3gpp 4206 i).1 w.start,
            (member_first xs k vendor_3gpp 4205 j).1 w.end,
          )

      above_passes : pos 0 <ℤ seconds_of c xs i j → window_at xs c k (avp_in xs k) ≡ no_refusal
      above_passes h = by_times ∙ rw (order_is ∙ above_test _ h)

      wrong_refused : seconds_of c xs i j ≤ℤ pos 0
          → window_at xs c k (avp_in xs k) ≡ refused 5004 (place_of (avp_in xs j)) vendor_3gpp 4205
      wrong_refused h = by_times ∙ rw (order_is ∙ not_above_test _ h) (named_fault 5004 (avp_in xs j) w.end.here)

  -- a window that passes has both times, and is right
  module _ (w : IsWindow xs k) where
    found_right : (f g : Option ℕ) → member xs k inner vendor_3gpp 4206 ≡ f → member xs k inner vendor_3gpp 4205 ≡ g
        → window_by xs c (end_of (avp_in xs k)) f g ≡ no_refusal → RightWindow c xs k
    found_right (Some i) (Some j) e f p =
        by_cases (is_before (number_at 4 c (avp_in xs i).start) (number_at 4 c (avp_in xs j).start))
        (λ h.
        record {
          i = i;
          j = j;
          window =
              record {
                window = w;
                start = (member_first xs k vendor_3gpp 4206 i).0 e;
                end = (member_first xs k vendor_3gpp 4205 j).0 f;
              };
          above = record { lt = rw (sym (order_is i j) ∙ h) tt };
        })
        (λ h. never (rw h at p))
    found_right (Some i) None e f p = never p
    found_right None (Some j) e f p = never p
    found_right None None e f p = never p

    passed_right : window_at xs c k (avp_in xs k) ≡ no_refusal → RightWindow c xs k
    unfolding window_in
    passed_right p = found_right _ _ refl refl (rw (window_named w) at p)

  -- of an AVP that is no window nothing is said
  right_passes : (IsWindow xs k → RightWindow c xs k) → window_at xs c k (avp_in xs k) ≡ no_refusal
  right_passes right =
      by_cases (named (avp_in xs k) vendor_3gpp 4204)
      (λ h. let w = right (named_window h) in above_passes w.i w.j w.window w.above)
      (λ h. rw h)

-- ---- one window after another

module _ (c : List ℕ) (xs : List Avp) where
  -- the windows from a position on
  windows_from : ℕ → Outcome
  windows_from k = each_window xs c k (drop k xs)

  next_window : (k : ℕ) → k < length xs → windows_from k ≡ or_else (window_at xs c k (avp_in xs k)) (windows_from (suc k))
  unfolding windows_from each_window
  next_window k h =
      let q : k + 1 ≡ suc k = omega arith in
      rw (drop-cons xs k blank h, q)

  passed_both : (k : ℕ) → k < length xs → windows_from k ≡ no_refusal
      → (window_at xs c k (avp_in xs k) ≡ no_refusal) × (windows_from (suc k) ≡ no_refusal)
  passed_both k h e = both_pass (window_at xs c k (avp_in xs k)) (windows_from (suc k)) (sym (next_window k h) ∙ e)

  -- where those before a position are right, what the others say
  right_before : (k : ℕ) → k ≤ length xs → RightBefore c xs k → windows c xs ≡ windows_from k
  unfolding windows_from
  right_before zero h right = refl
  right_before (suc k) h right =
      right_before k (omega arith) (λ i l. right i (omega arith))
      ∙ next_window k h
      ∙ rw (right_passes c xs k (right k (omega arith)))

  all_pass : AllRight c xs → windows c xs ≡ no_refusal
  unfolding windows_from each_window
  all_pass right =
      right_before (length xs) (omega arith) right ∙ rw (drop_of_length-le xs {i = length xs} (omega arith))

  first_wrong : (k j : ℕ) → RightBefore c xs k → WrongWindow c xs k j
      → windows c xs ≡ refused 5004 (place_of (avp_in xs j)) vendor_3gpp 4205
  first_wrong k j right w =
      let later = w.window.end.behind in
      let within = w.window.end.within in
      right_before k (omega arith) right
      ∙ next_window k (omega arith)
      ∙ rw (wrong_refused c xs k w.i j w.window w.not_above)

  module _ (p : windows c xs ≡ no_refusal) where
    passed_from : (k : ℕ) → k ≤ length xs → windows_from k ≡ no_refusal
    unfolding windows_from
    passed_from zero h = p
    passed_from (suc k) h = (passed_both k h (passed_from k (omega arith))).1

    pub pass_all_right : AllRight c xs
    pass_all_right k h w = passed_right c xs k w (passed_both k h (passed_from k (omega arith))).0

-- ---- in their place

-- the rows are met, and the exchange rules of the request or the answer hold
module _ (c : List ℕ) (xs : List Avp) (h : header_outcome c ≡ no_refusal) (w : walk_of c ≡ whole xs) (own : own_rows c xs ≡ no_refusal)
    (groups : group_rows c xs ≡ no_refusal) (rules : exchange c xs ≡ no_refusal) where
  -- 02 [5]: "A window is right exactly when this number is above 0. Refusals: 5004 keeps its place": the first window
  -- in walk order, at any depth, whose number is not above 0 is refused at its 4205.
  -- Carried by request_5_right (Times), member_first (Found) and demand_2_first_fault (Order).
  -- Ruled out: a reader that orders raw numbers; one that reports the last of two wrong windows.
  pub request_5_refused : (k j : ℕ) → RightBefore c xs k → WrongWindow c xs k j
      → command_verdict c ≡ verdict 5004 (place_of (avp_in xs j)) vendor_3gpp 4205
  request_5_refused k j right wrong =
      ((demand_2_first_fault c).lists xs h w).times _ own groups rules (first_wrong c xs k j right wrong)

  -- And where all are right, the command is accepted.
  -- Carried by the same.
  -- Ruled out: a reader that goes the nearer way round, so that a window of more than half the range is refused; one
  -- that refuses a window over February 2036.
  pub request_5_accepted : AllRight c xs → command_verdict c ≡ verdict 0 0 0 0
  request_5_accepted right = ((demand_2_first_fault c).lists xs h w).none own groups rules (all_pass c xs right)

-- An accepted command has only right windows.
-- Carried by demand_2_accepted, passed_command (rules/proofs/Commands), member_first (Found) and request_5_right.
-- Ruled out: a reader that lets a window without an end pass; one that judges the windows of requests alone.
pub request_5_only : (c : List ℕ) → AcceptedCommand c → (xs : List Avp) × (walk_of c ≡ whole xs) × AllRight c xs
unfolding lists_outcome exchange_by
request_5_only c a =
    let p = passed_command c ((demand_2_accepted c).0 a) in
    let xs = p.avps in
    let rows = rows_outcome dictionary (command_rules c).rows (length c) xs in
    let after-rows = (both_pass rows _ p.lists).1 in
    (xs, p.walk, pass_all_right c xs (both_pass (exchange c xs) (windows c xs) after-rows).1)
