-- The lists of a command by the log of its walk are judged as document 01 judges its AVPs: each name that the exchange
-- rules ask for has an entry, by the first positions of entries a list and each group are searched as 01 searches them,
-- and the policies are as many as the search tells.
use mathlib.Core.Path.{◌≡◌, refl, sym, ap, ◌∙◌}
use Rattle.std.specs.Prelude.{Option, Some, None}
use mathlib.Core.Bool.{Bool, true, false, cond, and_comm}
use mathlib.Core.List.{List, [], ◌∷◌}
use Prim.Native.Nat.{ℕ, ◌+◌, ◌≤◌, ◌<◌}
use native.Mathlib.Nat.{zero-add}
use native.Mathlib.Omega.{arith}
use borrow.Author.Tests.{eqb-true}
use lib.Dec.{eqb, ltb→lt}
use lib.ListN.{length, get_or, drop}
use Rattle.rules.specs.declared.Avp.{Avp}
use Rattle.rules.specs.declared.CommandRules.{CommandRules}
use Rattle.rules.specs.declared.ExchangeRules.{ExchangeRules}
use Rattle.rules.specs.declared.ExchangeRules.TheVariants.{OfRequest, OfAnswer, WindowsAlone}
use Rattle.rules.specs.Verdict.{or_else, Outcome, no_refusal}
use Rattle.rules.specs.Avp.{named, end_of}
use Rattle.rules.specs.Walk.{most_avps}
use Rattle.rules.specs.Dictionary.{dictionary}
use Rattle.rules.specs.RowChecks.{rows_outcome}
use Rattle.rules.specs.Search.{is_at, with_position, positions_from, first, member, how_many}
use Rattle.rules.specs.Exchange.{direction, volume, total_alone, first_request, later_request, request_by, request_outcome}
use Rattle.rules.specs.Exchange.{result_outcome, policies_outcome, answer_outcome, by_command, exchange_by}
use Rattle.rules.specs.Exchange.{policy_in, policy_outcome, policies_at, each_policy, policy_number, window_in, window_at, each_window}
use Rattle.rules.specs.Exchange.{exchange_outcome}
use Rattle.rules.proofs.Tests.{and_true}
use Rattle.rules.proofs.Searches.{positions_next, positions_none, positions_number}
use Rattle.dictionary.specs.Entries.{number_where, entry_of}
use Rattle.walk_log.specs.Log.{Logged}
use Rattle.walk_log.specs.Families.{logged_from, Forest, IsForest}
use Rattle.walk_log.proofs.Forests.{Holds, Stands, stands_at}
use Rattle.exchange.specs.Firsts.{find_in}
use Rattle.lists.specs.ByLog.{first_fault}
use Rattle.lists.specs.Firsts.{no_firsts, firsts_from}
use Rattle.lists.specs.Exchanges.{firsts_at, has_entry, is_policy, policy_number_from, policy_logged, window_logged, lists_by}
use Rattle.lists.proofs.Finds.{IsKnown, known_only, first_among, find_same}
use Rattle.lists.proofs.Walked.{FamilyAt, each_of, walked_rows}
use Rattle.lists.proofs.Firsts.{first_positions, member_positions}

-- ---- two searches that agree on the names of the dictionary: the rules say the same by either

module _ (f g : ℕ → ℕ → Option ℕ) (same : (vendor code : ℕ) → IsKnown vendor code → f vendor code ≡ g vendor code) where
  first_same : (xs : List Avp) (end : ℕ) → first_request f xs end ≡ first_request g xs end
  unfolding dictionary number_where first_request volume direction total_alone
  first_same xs end =
      rw (same 10415 532 tt, same 0 412 tt, same 0 414 tt, same 0 421 tt, same 10415 4209 tt, same 10415 4204 tt)

  later_same : (end : ℕ) → later_request f end ≡ later_request g end
  unfolding dictionary number_where later_request
  later_same end = rw (same 10415 4202 tt, same 10415 4208 tt, same 0 293 tt)

  request_by_lem : (xs : List Avp) (s : List ℕ) (end : ℕ) (type : Option ℕ)
      → request_by f xs s end type ≡ request_by g xs s end type
  request_by_lem xs s end (Some i) = rw (first_same xs end, later_same end)
  request_by_lem xs s end None = refl

  request_same : (xs : List Avp) (s : List ℕ) (end : ℕ) → request_outcome f xs s end ≡ request_outcome g xs s end
  unfolding dictionary number_where request_outcome
  request_same xs s end =
      ap (request_by f xs s end) (same 10415 4203 tt) ∙ request_by_lem xs s end (g 10415 4203)

  answer_same : (xs : List Avp) (end number : ℕ) (policies : Outcome)
      → answer_outcome f xs end number policies ≡ answer_outcome g xs end number policies
  unfolding dictionary number_where answer_outcome result_outcome policies_outcome
  answer_same xs end number policies = rw (same 0 268 tt, same 0 297 tt, same 10415 4202 tt, same 10415 2207 tt)

  exchange_same : (rules : ExchangeRules) (xs : List Avp) (s : List ℕ) (end number : ℕ) (policies : Outcome)
      → by_command f rules xs s end number policies ≡ by_command g rules xs s end number policies
  exchange_same OfRequest xs s end number policies = request_same xs s end
  exchange_same OfAnswer xs s end number policies = answer_same xs end number policies
  exchange_same WindowsAlone xs s end number policies = refl

  policy_same : (end : ℕ) → policy_in f end ≡ policy_in g end
  unfolding dictionary number_where policy_in
  policy_same end = rw (same 10415 4204 tt, same 0 432 tt)

  window_same : (xs : List Avp) (s : List ℕ) (end : ℕ) → window_in f xs s end ≡ window_in g xs s end
  unfolding dictionary number_where window_in
  window_same xs s end = rw (same 10415 4206 tt, same 10415 4205 tt)

-- ---- each policy, AVP by AVP

-- what is said of the AVP a at position i: of a policy of the command's own list its outcome
abbrev policy_at : List Avp → ℕ → Avp → Outcome
policy_at ys i a = cond (is_at a 1 10415 4207) (policy_outcome ys i) no_refusal

-- the policies from position i on
abbrev policies_behind : List Avp → ℕ → List Avp → Outcome
policies_behind ys i xs = policies_at ys (positions_from i 0 1 xs 10415 4207)

policies_end : (ys : List Avp) (i : ℕ) → policies_behind ys i [] ≡ no_refusal
unfolding policies_at
policies_end ys i = rw (positions_none i 0 1 10415 4207)

policies_next : (ys : List Avp) (i : ℕ) (a : Avp) (xs : List Avp)
    → policies_behind ys i (a ∷ xs) ≡ or_else (policy_at ys i a) (policies_behind ys (i + 1) xs)
unfolding policies_at
policies_next ys i a xs =
    rw (positions_next i 0 1 a xs 10415 4207 (omega arith))
    (one (is_at a 1 10415 4207) (positions_from (i + 1) 0 1 xs 10415 4207))
  where
    one : (own : Bool) (is : List ℕ)
        → policies_at ys (with_position own i is) ≡ or_else (cond own (policy_outcome ys i) no_refusal) (policies_at ys is)
    one true is = refl
    one false is = refl

-- ---- which AVPs of a log are policies

-- an AVP that a log has is one exactly where 01 says so: its name and its depth are asked for in either order
is_policy_lem : (at : ℕ → Logged) (a : Avp) (i after : ℕ) → Holds (entry_of dictionary) at i a after
    → is_policy (at i) ≡ is_at a 1 10415 4207
unfolding dictionary number_where
is_policy_lem at a i after h =
    rw (h, known_only dictionary 10415 4207 (ltb→lt _ _ tt) a.vendor a.code)
    (and_comm (named a 10415 4207) (eqb a.depth 1))

-- ---- the AVPs of a walk, which a log has

module _ (ys : List Avp) (few : length ys ≤ most_avps) (at : ℕ → Logged) where
  -- the AVP at a position
  module _ (a : Avp) (members rest : Forest) (above : ℕ) (xs : List Avp) (i : ℕ)
      (here : FamilyAt (entry_of dictionary) at ys a members rest above xs i) where
    -- the log has it, and its entry tells its name
    is_logged : (at i).avp ≡ a
    is_logged = ap (λ (l : Logged). l.avp) here.stands.first

    has_name : (vendor code : ℕ) → IsKnown vendor code → has_entry (at i) vendor code ≡ named a vendor code
    has_name vendor code known =
        let k = ltb→lt (entry_of dictionary vendor code) (length dictionary) known in
        rw here.stands.first (known_only dictionary vendor code k a.vendor a.code)

    -- by first positions its members are searched as 01 searches them
    group_finds : (vendor code : ℕ) → IsKnown vendor code
        → find_in (firsts_at at (length ys) i) (length ys) vendor code ≡ member ys i (a.depth + 1) vendor code
    group_finds =
        let all : i + 1 + length (drop (i + 1) ys) ≡ length ys = rw here.behind here.all in
        find_same (i + 1) (length ys) few (member ys i (a.depth + 1))
        (λ vendor code. rw all at (first_among vendor code (drop (i + 1) ys) (i + 1) (a.depth + 1) (a.depth + 1)))
        (firsts_at at (length ys) i)
        (λ vendor code k. member_positions at vendor code most_avps k ys a members rest above xs i here few)

    -- as a policy it stands at depth 1, and its members at 2
    policy_by : (own : Bool) (end : ℕ) → is_at a 1 10415 4207 ≡ own
        → cond own (policy_in (find_in (firsts_at at (length ys) i) (length ys)) end) no_refusal
        ≡ cond own (policy_in (member ys i 2) end) no_refusal
    policy_by true end e =
        let d : a.depth ≡ 1 = eqb-true a.depth 1 (and_true (eqb a.depth 1) (named a 10415 4207) e).0 in
        policy_same _ (member ys i 2) (rw d at group_finds) end
    policy_by false end e = refl

    policy_at_lem : policy_logged at (length ys) i ≡ policy_at ys i a
    unfolding policy_logged
    policy_at_lem =
        rw (is_policy_lem at a i _ here.stands.first, is_logged, here.here)
        (policy_by (is_at a 1 10415 4207) (end_of a) refl)

    window_at_lem : (s : List ℕ) → window_logged at ys s (length ys) i ≡ window_at ys s i a
    unfolding window_logged dictionary number_where
    window_at_lem s =
        rw (
          has_name 10415 4204 tt,
          is_logged,
          here.here,
          window_same _ (member ys i (a.depth + 1)) group_finds ys s (end_of a),
        )

  -- all of them
  module _ (forest : IsForest 1 ys) (stands : Stands (entry_of dictionary) at 0 ys) where
    policies_of : first_fault (policy_logged at (length ys)) (length ys) 0 ≡ each_policy ys
    policies_of =
        each_of (entry_of dictionary) at ys (policy_logged at (length ys)) (λ i a xs. policy_at ys i a) (policies_behind ys)
        (policies_end ys) (policies_next ys) policy_at_lem forest stands

    -- as many policies as the search tells
    number_from : (xs : List Avp) (i : ℕ) → Stands (entry_of dictionary) at i xs
        → policy_number_from at (length xs) i ≡ how_many 1 10415 4207 xs
    unfolding policy_number_from how_many
    number_from [] i s = refl
    number_from (a ∷ xs) i s = rw (is_policy_lem at a i _ s.0, number_from xs (i + 1) s.1)

    pub policies_number : policy_number_from at (length ys) 0 ≡ policy_number ys
    policies_number = number_from ys 0 stands ∙ sym (positions_number ys 0 1 10415 4207)

    windows_of : (s : List ℕ) → first_fault (window_logged at ys s (length ys)) (length ys) 0 ≡ each_window ys s 0 ys
    unfolding each_window
    windows_of s =
        each_of (entry_of dictionary) at ys (window_logged at ys s (length ys)) (λ i a xs. window_at ys s i a)
        (each_window ys s) (λ i. refl) (λ i a xs. refl)
        (λ a members rest above xs i here. window_at_lem a members rest above xs i here s) forest stands

    -- and so is the command's own list
    own_finds : (vendor code : ℕ) → IsKnown vendor code
        → find_in (firsts_from (length ys) at 0 (length ys) no_firsts) (length ys) vendor code ≡ first ys vendor code
    own_finds =
        find_same 0 (length ys) few (first ys)
        (λ vendor code. rw (zero-add (length ys)) at (first_among vendor code ys 0 0 1)) _
        (λ vendor code k. first_positions at vendor code most_avps k ys forest few stands)

    exchange_of : (rules : ExchangeRules) (s : List ℕ) (end : ℕ)
        → exchange_by (find_in (firsts_from (length ys) at 0 (length ys) no_firsts) (length ys)) rules ys s end
        (policy_number_from at (length ys) 0) (first_fault (policy_logged at (length ys)) (length ys) 0)
        (first_fault (window_logged at ys s (length ys)) (length ys) 0)
        ≡ exchange_outcome rules ys s end
    unfolding exchange_by
    exchange_of rules s end =
        rw (policies_number, policies_of, windows_of s)
        (ap (λ (o : Outcome). or_else o (each_window ys s 0 ys))
        (exchange_same _ (first ys) own_finds rules ys s end (policy_number ys) (each_policy ys)))

-- the rows, then the exchange rules, by what a log has at each position; `other` is what stands where there is none
pub walked_lists : (xs : List Avp) → IsForest 1 xs → length xs ≤ most_avps → (at : ℕ → Logged) (other : Logged)
    → ((i : ℕ) → i < length (logged_from (entry_of dictionary) 0 xs)
    → at i ≡ get_or (logged_from (entry_of dictionary) 0 xs) i other)
    → (rules : CommandRules) (s : List ℕ) (end : ℕ)
    → lists_by at xs rules s end (length xs)
    ≡ or_else (rows_outcome dictionary rules.rows end xs) (exchange_outcome rules.exchange xs s end)
unfolding lists_by
walked_lists xs f few at other h rules s end =
    let stands = stands_at (entry_of dictionary) at xs 0 other (λ i l. rw (zero-add i) (h i l)) in
    rw (walked_rows xs f at other h rules.rows end, exchange_of xs few at f stands rules.exchange s end)
