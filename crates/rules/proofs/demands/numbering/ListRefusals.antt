-- A test that holds of the refusals for an AVP holds of those of the rows' checks and of the exchange rules.
use mathlib.Core.Path.{◌≡◌, refl}
use Rattle.std.specs.Prelude.{Option, Some, None}
use mathlib.Core.Bool.{Bool, true, false, cond}
use mathlib.Core.List.{List, [], ◌∷◌}
use Prim.Native.Nat.{ℕ, ◌+◌}
use lib.Dec.{ltb}
use lib.ListN.{get_or}
use Rattle.rules.specs.declared.Avp.{Avp}
use Rattle.rules.specs.declared.Verdict.{Verdict}
use Rattle.rules.specs.declared.Mark.{Mark}
use Rattle.rules.specs.declared.Mark.TheVariants.{First, FirstIfPresent, Once, AtMostOnce, AnyNumber}
use Rattle.rules.specs.declared.Admission.{Admission}
use Rattle.rules.specs.declared.Grammar.{Grammar}
use Rattle.rules.specs.declared.ExchangeRules.{ExchangeRules}
use Rattle.rules.specs.declared.ExchangeRules.TheVariants.{OfRequest, OfAnswer, WindowsAlone}
use Rattle.rules.specs.Verdict.{or_else, Outcome, no_refusal}
use Rattle.rules.specs.Avp.{end_of, named}
use Rattle.rules.specs.declared.Entry.{Entry}
use Rattle.rules.specs.Dictionary.{defined, members_of}
use Rattle.rules.specs.Rows.{Row, rows_of, admits_others}
use Rattle.rules.specs.RowChecks.{admission, none_met, counted, by_mark, by_admission, member_outcome, missing_from, members_outcome, members_at, group_outcome, groups_outcome, list_outcome, rows_outcome}
use Rattle.rules.specs.Search.{avp_in, positions, first, member}
use Rattle.rules.specs.Exchange.{present, volume, not_beside, total_alone, first_request, later_request, request_by, request_outcome, result_by, result_outcome, policies_outcome, policy_in, policy_outcome, policies_at, each_policy, policy_number, answer_outcome, window_by, window_in, window_outcome, window_at, each_window, by_command, exchange_by, exchange_outcome}
use Rattle.rules.proofs.demands.numbering.Refusals.{meets, AvpRefusals, either, both, in_turn}

-- the command's list, then each group
rows_order : (dict : List Entry) (g : Grammar) (end : ℕ) (xs : List Avp)
    → rows_outcome dict g end xs ≡ or_else (list_outcome g 1 end xs) (groups_outcome dict xs)
unfolding rows_outcome
rows_order dict g end xs = refl

module _ (t : Verdict → Bool) (r : AvpRefusals t) where
  -- ---- the rows

  mark_meets : (mark : Mark) (met first : Bool) (a : Avp) → meets t (by_mark mark met first a) ≡ true
  unfolding meets
  mark_meets First met first a = simp (either t, both, r.many, r.unallowed)
  mark_meets FirstIfPresent met first a = simp (either t, both, r.many, r.unallowed)
  mark_meets Once met first a = simp (either t, both, r.many)
  mark_meets AtMostOnce met first a = simp (either t, both, r.many)
  mark_meets AnyNumber met first a = refl

  admission_meets : (others : Bool) (counts : List ℕ) (first : Bool) (a : Avp) (row : Option Admission)
      → meets t (by_admission others counts first a row) ≡ true
  unfolding meets
  admission_meets others counts first a (Some by) = mark_meets by.mark (ltb 0 (get_or counts by.row 0)) first a
  admission_meets others counts first a None = simp (either t, both, r.unallowed)

  member_meets : (g : Grammar) (counts : List ℕ) (first : Bool) (a : Avp)
      → meets t (member_outcome g counts first a) ≡ true
  unfolding member_outcome
  member_meets g counts first a =
      admission_meets (admits_others g) counts first a (admission g a.vendor a.code)

  missing_meets : (i : ℕ) (rows : List Row) (counts : List ℕ) (end : ℕ)
      → meets t (missing_from i rows counts end) ≡ true
  unfolding missing_from meets
  missing_meets i [] counts end = refl
  missing_meets i (row ∷ rows) counts end =
      let ih = missing_meets (i + 1) rows counts end in
      simp (either t, both, r.missing, ih)

  members_meets : (g : Grammar) (end : ℕ) (counts : List ℕ) (first : Bool) (xs : List Avp)
      → meets t (members_outcome g end counts first xs) ≡ true
  unfolding members_outcome
  members_meets g end counts first [] = missing_meets 0 (rows_of g) counts end
  members_meets g end counts first (a ∷ xs) =
      in_turn t _ _ (member_meets g counts first a)
      (members_meets g end (counted counts (admission g a.vendor a.code)) false xs)

  group_meets : (m : Option Grammar) (a : Avp) (xs : List Avp) → meets t (group_outcome m a xs) ≡ true
  unfolding meets
  group_meets (Some g) a xs = members_meets g (end_of a) none_met true (members_at (a.depth + 1) xs)
  group_meets None a xs = refl

  groups_meets : (dict : List Entry) (xs : List Avp) → meets t (groups_outcome dict xs) ≡ true
  unfolding groups_outcome meets
  groups_meets dict [] = refl
  groups_meets dict (a ∷ xs) =
      in_turn t (group_outcome (members_of (defined dict a)) a xs) _ (group_meets (members_of (defined dict a)) a xs)
      (groups_meets dict xs)

  pub rows_meets : (dict : List Entry) (g : Grammar) (end : ℕ) (xs : List Avp)
      → meets t (rows_outcome dict g end xs) ≡ true
  rows_meets dict g end xs =
      rw (rows_order dict g end xs)
      (in_turn t _ _ (members_meets g end none_met true (members_at 1 xs)) (groups_meets dict xs))

  -- ---- the exchange rules

  present_meets : (end vendor code : ℕ) (f : Option ℕ) → meets t (present end vendor code f) ≡ true
  unfolding meets
  present_meets end vendor code (Some i) = refl
  present_meets end vendor code None = r.missing _ _ _

  volume_meets : (find : ℕ → ℕ → Option ℕ) (end : ℕ) → meets t (volume find end) ≡ true
  unfolding volume
  volume_meets find end = search present_meets

  beside_meets : (xs : List Avp) (f g : Option ℕ) → meets t (not_beside xs f g) ≡ true
  unfolding meets
  beside_meets xs (Some i) (Some j) = r.unallowed _ _ _
  beside_meets xs (Some i) None = refl
  beside_meets xs None g = refl

  total_meets : (find : ℕ → ℕ → Option ℕ) (xs : List Avp) → meets t (total_alone find xs) ≡ true
  unfolding total_alone
  total_meets find xs = search beside_meets

  -- the rules of a request, in any order
  ruleset of-request = (in_turn, present_meets, volume_meets, total_meets)

  first_meets : (find : ℕ → ℕ → Option ℕ) (xs : List Avp) (end : ℕ) → meets t (first_request find xs end) ≡ true
  unfolding first_request
  first_meets find xs end = search of-request

  later_meets : (find : ℕ → ℕ → Option ℕ) (end : ℕ) → meets t (later_request find end) ≡ true
  unfolding later_request
  later_meets find end = search of-request

  request_by_lem : (find : ℕ → ℕ → Option ℕ) (xs : List Avp) (s : List ℕ) (end : ℕ) (f : Option ℕ) → meets t (request_by find xs s end f) ≡ true
  unfolding meets
  request_by_lem find xs s end (Some i) = simp (either t, both, first_meets, later_meets)
  request_by_lem find xs s end None = r.missing _ _ _

  request_meets : (find : ℕ → ℕ → Option ℕ) (xs : List Avp) (s : List ℕ) (end : ℕ) → meets t (request_outcome find xs s end) ≡ true
  unfolding request_outcome
  request_meets find xs s end = search request_by_lem

  result_by_lem : (xs : List Avp) (end : ℕ) (f g : Option ℕ) → meets t (result_by xs end f g) ≡ true
  unfolding meets
  result_by_lem xs end (Some i) (Some j) = r.unallowed _ _ _
  result_by_lem xs end (Some i) None = refl
  result_by_lem xs end None (Some j) = refl
  result_by_lem xs end None None = r.missing _ _ _

  result_meets : (find : ℕ → ℕ → Option ℕ) (xs : List Avp) (end : ℕ) → meets t (result_outcome find xs end) ≡ true
  unfolding result_outcome
  result_meets find xs end = search result_by_lem

  -- an outcome under a test
  where_meets : (b : Bool) (o : Outcome) → meets t o ≡ true → meets t (cond b o no_refusal) ≡ true
  unfolding meets
  where_meets b o h = simp (either t, both, h)

  policies_meets : (find : ℕ → ℕ → Option ℕ) (end number : ℕ) → meets t (policies_outcome find end number) ≡ true
  unfolding policies_outcome
  policies_meets find end number = search (in_turn, where_meets, present_meets)

  policy_meets : (xs : List Avp) (i : ℕ) → meets t (policy_outcome xs i) ≡ true
  unfolding policy_in
  policy_meets xs i = search (in_turn, present_meets)

  policies_at_meets : (xs : List Avp) (is : List ℕ) → meets t (policies_at xs is) ≡ true
  unfolding policies_at meets
  policies_at_meets xs [] = refl
  policies_at_meets xs (i ∷ is) =
      let later = policies_at_meets xs is in
      search (in_turn, policy_meets, later)

  answer_meets : (find : ℕ → ℕ → Option ℕ) (xs : List Avp) (end number : ℕ) (policies : Outcome) → meets t policies ≡ true
      → meets t (answer_outcome find xs end number policies) ≡ true
  unfolding answer_outcome
  answer_meets find xs end number policies h =
      in_turn t _ _ (result_meets find xs end) (in_turn t _ _ (policies_meets find end number) h)

  window_by_lem : (xs : List Avp) (s : List ℕ) (end : ℕ) (f g : Option ℕ) → meets t (window_by xs s end f g) ≡ true
  unfolding meets
  window_by_lem xs s end (Some i) (Some j) = simp (either t, both, r.value)
  window_by_lem xs s end (Some i) None = r.missing _ _ _
  window_by_lem xs s end None (Some j) = r.missing _ _ _
  window_by_lem xs s end None None = r.missing _ _ _

  window_meets : (xs : List Avp) (s : List ℕ) (i depth : ℕ) → meets t (window_outcome xs s i depth) ≡ true
  unfolding window_in
  window_meets xs s i depth =
      window_by_lem xs s (end_of (avp_in xs i)) (member xs i depth 10415 4206) (member xs i depth 10415 4205)

  each_window_meets : (xs : List Avp) (s : List ℕ) (i : ℕ) (rest : List Avp)
      → meets t (each_window xs s i rest) ≡ true
  unfolding each_window meets
  each_window_meets xs s i [] = refl
  each_window_meets xs s i (a ∷ rest) =
      let w = window_outcome xs s i (a.depth + 1) in
      in_turn t (window_at xs s i a) _ (where_meets (named a 10415 4204) w (window_meets xs s i (a.depth + 1)))
      (each_window_meets xs s (i + 1) rest)

  by_command_lem : (find : ℕ → ℕ → Option ℕ) (rules : ExchangeRules) (xs : List Avp) (s : List ℕ) (end number : ℕ)
      → meets t (by_command find rules xs s end number (each_policy xs)) ≡ true
  unfolding meets
  by_command_lem find OfRequest xs s end number = request_meets find xs s end
  by_command_lem find OfAnswer xs s end number =
      answer_meets find xs end number (each_policy xs) (policies_at_meets xs (positions xs 10415 4207))
  by_command_lem find WindowsAlone xs s end number = refl

  pub exchange_meets : (rules : ExchangeRules) (xs : List Avp) (s : List ℕ) (end : ℕ)
      → meets t (exchange_outcome rules xs s end) ≡ true
  unfolding exchange_by
  exchange_meets rules xs s end =
      in_turn t (by_command (first xs) rules xs s end (policy_number xs) (each_policy xs)) _
      (by_command_lem (first xs) rules xs s end (policy_number xs)) (each_window_meets xs s 0 xs)
