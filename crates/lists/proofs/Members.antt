-- Laws of the checks by the numbers of a log: the members of a list one by one, what is said at one position after
-- another, how many policies there are, and that what is no group is neither policy nor window.
use mathlib.Core.Path.{◌≡◌, refl, sym, ap, ◌∙◌}
use Rattle.std.specs.Prelude.{Some, None, Ok, Err, Option, Result}
use mathlib.Core.List.{List, [], ◌∷◌}
use mathlib.Core.Bool.{Bool, true, false, cond}
use Prim.Native.Nat.{ℕ, zero, suc, ◌+◌, ◌-◌, ◌≤◌, ◌<◌}
use native.Mathlib.Omega.{arith}
use native.Mathlib.Nat.{add-zero, sub-zero}
use borrow.Author.Tests.{lt-ltb, le-ltb, ltb-true, ne_eqb}
use lib.Dec.{eqb, ltb}
use lib.ListN.{get_or}
use Rattle.rules.specs.declared.Avp.{Avp}
use Rattle.rules.specs.declared.CommandRules.{CommandRules}
use Rattle.rules.specs.declared.Grammar.{Grammar}
use Rattle.rules.specs.declared.Grammar.TheVariants.{TimeWindow, TransferPolicy}
use Rattle.rules.specs.declared.Verdict.{Verdict}
use Rattle.rules.specs.declared.Mark.{Mark}
use Rattle.rules.specs.declared.Mark.TheVariants.{First, FirstIfPresent, Once, AtMostOnce, AnyNumber}
use Rattle.rules.specs.declared.Admission.{Admission}
use Rattle.rules.specs.Verdict.{or_else, Outcome, no_refusal}
use Rattle.rules.specs.Header.{vendor_3gpp}
use Rattle.rules.specs.Rows.{admits_others}
use Rattle.rules.specs.Dictionary.{dictionary, members_of}
use Rattle.rules.specs.RowChecks.{counted, by_mark, by_admission, missing}
use Rattle.rules.specs.Exchange.{exchange_by}
use Rattle.rules.proofs.Outcomes.{refused_first, or_pass, or_assoc}
use Rattle.dictionary.specs.Entries.{number_where, entry_of, definition_at}
use Rattle.walk_log.specs.Log.{Logged}
use Rattle.exchange.specs.Firsts.{find_in}
use Rattle.exchange.specs.declared.Groups.{Groups}
use Rattle.lists.specs.ByLog.{admission_at, logged_members, members_by, list_by, group_at, first_fault, rows_by}
use Rattle.lists.specs.Firsts.{no_firsts, firsts_from, passed_with}
use Rattle.lists.specs.Tables.{mark_of_member, for_member}
use Rattle.lists.specs.Exchanges.{is_policy, policy_number_from, policy_logged, window_logged, groups_in, lists_by}

-- what is left of a list from position i on, with the counts so far
abbrev pub left_by : (ℕ → Logged) → ℕ → Grammar → ℕ → List ℕ → Bool → ℕ → Outcome
left_by at stop g end counts first i = members_by g end counts first (logged_members (stop - i) at i stop)

-- ---- a member is judged and counted by what its row's mark says of a member

mark_alike : (mark : Mark) (met first : Bool) (a : Avp) → by_mark (mark_of_member mark) met first a ≡ by_mark mark met first a
mark_alike First met first a = refl
mark_alike FirstIfPresent met first a = refl
mark_alike Once met first a = refl
mark_alike AtMostOnce met first a = refl
mark_alike AnyNumber met first a = refl

member_alike : (others : Bool) (counts : List ℕ) (first : Bool) (a : Avp) (m : Option Admission)
    → by_admission others counts first a (for_member m) ≡ by_admission others counts first a m
member_alike others counts first a (Some by) = mark_alike by.mark (ltb 0 (get_or counts by.row 0)) first a
member_alike others counts first a None = refl

counted_alike : (counts : List ℕ) (m : Option Admission) → counted counts (for_member m) ≡ counted counts m
counted_alike counts (Some a) = refl
counted_alike counts None = refl

module _ (at : ℕ → Logged) where
  -- ---- the members of a list

  module _ (stop : ℕ) where
    -- none, from `stop` on
    pub logged_members_none : (n i : ℕ) → stop ≤ i → logged_members n at i stop ≡ []
    unfolding logged_members
    logged_members_none zero i h = refl
    logged_members_none (suc n) i h = rw (le-ltb i stop h)

    -- before it, the one at the position, then those behind its last descendant
    pub logged_members_next : (n i : ℕ) (l : Logged) → i < stop → at i ≡ l
        → logged_members (suc n) at i stop ≡ l ∷ logged_members n at l.after stop
    unfolding logged_members
    logged_members_next n i l h e = rw (lt-ltb i stop h, e)

    -- where each step goes on, enough steps give the same members
    module _ (onward : (i : ℕ) → i < stop → i < (at i).after) where
      logged_members_again : (n m i : ℕ) (more : Bool) → ltb i stop ≡ more
          → (i < stop → logged_members n at (at i).after stop ≡ logged_members m at (at i).after stop)
          → logged_members (suc n) at i stop ≡ logged_members (suc m) at i stop
      unfolding logged_members
      logged_members_again n m i true e same = rw e (ap (λ (ls : List Logged). at i ∷ ls) (same (ltb-true i stop e)))
      logged_members_again n m i false e same = rw e

      logged_members_enough : (n m i : ℕ) → stop - i ≤ n → stop - i ≤ m → logged_members n at i stop ≡ logged_members m at i stop
      logged_members_enough zero m i h k = logged_members_none zero i (omega arith) ∙ sym (logged_members_none m i (omega arith))
      logged_members_enough (suc n) zero i h k = logged_members_none (suc n) i (omega arith) ∙ sym (logged_members_none zero i (omega arith))
      logged_members_enough (suc n) (suc m) i h k =
          logged_members_again n m i (ltb i stop) refl
          (λ l. logged_members_enough n m (at i).after (omega (arith, onward i l)) (omega (arith, onward i l)))

      logged_members_first : (i : ℕ) → i < stop → logged_members (stop - i) at i stop ≡ at i ∷ logged_members (stop - (at i).after) at (at i).after stop
      logged_members_first i h =
          let e : stop - i ≡ suc (stop - i - 1) = omega arith in
          ap (λ (n : ℕ). logged_members n at i stop) e
          ∙ logged_members_next (stop - i - 1) i (at i) h refl
          ∙ ap (λ (ls : List Logged). at i ∷ ls)
          (logged_members_enough (stop - i - 1) (stop - (at i).after) (at i).after (omega (arith, onward i h)) (omega arith))

      module _ (g : Grammar) (end : ℕ) (counts : List ℕ) (first : Bool) (i : ℕ) where
        -- the member at the position, with the row that names it and what that says of a member
        pub members_next : i < stop → (l : Logged) (m : Option Admission) (o : Outcome) → l ≡ at i → m ≡ for_member (admission_at g l.entry)
            → o ≡ by_admission (admits_others g) counts first l.avp m
            → left_by at stop g end counts first i ≡ or_else o (left_by at stop g end (counted counts m) false l.after)
        unfolding members_by
        members_next h l m o e p q =
            rw (
              logged_members_first i h,
              q,
              p,
              member_alike (admits_others g) counts first l.avp (admission_at g l.entry),
              counted_alike counts (admission_at g l.entry),
              e,
            )

    pub members_none : (g : Grammar) (end : ℕ) (counts : List ℕ) (first : Bool) (i : ℕ) → stop ≤ i
        → left_by at stop g end counts first i ≡ missing g counts end
    unfolding members_by
    members_none g end counts first i h = rw (logged_members_none (stop - i) i h)

-- ---- the first fault of what is said at the positions before `count`

module _ (said : ℕ → Outcome) (count : ℕ) where
  -- `o` is the first fault before position i
  abbrev pub Reached : Outcome → ℕ → Type 0
  Reached o i = or_else o (first_fault said (count - i) i) ≡ first_fault said count 0

  pub reached_none : Reached no_refusal 0
  reached_none = rw (sub-zero count)

  -- with what is said at the position
  pub reached_next : (o p : Outcome) (i : ℕ) → Reached o i → i < count → p ≡ said i → Reached (or_else o p) (i + 1)
  unfolding first_fault
  reached_next o p i r h e =
      let n : count - i ≡ suc (count - (i + 1)) = omega arith in
      or_assoc o p _ ∙ rw e (rw n at r)

  -- where nothing is said there
  pub reached_pass : (o : Outcome) (i : ℕ) → Reached o i → i < count → no_refusal ≡ said i → Reached o (i + 1)
  reached_pass o i r h e = rw (or_pass o) at (reached_next o no_refusal i r h e)

  pub reached_all : (o : Outcome) (i : ℕ) → Reached o i → count ≤ i → o ≡ first_fault said count 0
  unfolding first_fault
  reached_all o i r h =
      let n : count - i ≡ 0 = omega arith in
      sym (or_pass o) ∙ (rw n at r)

  -- a fault is the answer, whatever is said behind it
  pub reached_fault : (o : Outcome) {v : Verdict} (i : ℕ) → Reached o i → o ≡ Err v → o ≡ first_fault said count 0
  reached_fault o i r e = sym (refused_first o _ e) ∙ r

-- ---- the policies before `count`

module _ (at : ℕ → Logged) (count : ℕ) where
  -- as many as `number` are before position i
  pub record PoliciesBefore (number i : ℕ) : Type 0 where
    pub left : number + policy_number_from at (count - i) i ≡ policy_number_from at count 0
    pub few : number ≤ i

  pub policies_none : PoliciesBefore 0 0
  policies_none = record { left = rw (sub-zero count) (omega arith); few = omega arith }

  pub policies_next : (number i : ℕ) → PoliciesBefore number i → i < count → PoliciesBefore (number + cond (is_policy (at i)) 1 0) (i + 1)
  unfolding policy_number_from
  policies_next number i c h =
      let n : count - i ≡ suc (count - (i + 1)) = omega arith in
      let left = rw n at c.left in
      let few = c.few in
      record { left = omega arith; few = one_more (is_policy (at i)) few }
    where
      one_more : (b : Bool) → number ≤ i → number + cond b 1 0 ≤ i + 1
      one_more true few = omega arith
      one_more false few = omega arith

  -- where there is none
  pub policies_other : (number i : ℕ) → PoliciesBefore number i → i < count → is_policy (at i) ≡ false → PoliciesBefore number (i + 1)
  policies_other number i c h e = rw (e, add-zero number) at (policies_next number i c h)

  pub policies_all : (number i : ℕ) → PoliciesBefore number i → count ≤ i → number ≡ policy_number_from at count 0
  unfolding policy_number_from
  policies_all number i c h =
      let n : count - i ≡ 0 = omega arith in
      let left = rw n at c.left in
      omega arith

-- ---- AVPs that are no group

module _ (at : ℕ → Logged) (count i : ℕ) (none : members_of (definition_at dictionary (at i).entry) ≡ None) where
  -- have no entry of a group
  no_entry_lem : (n : ℕ) (g : Grammar) → members_of (definition_at dictionary n) ≡ Some g → eqb (at i).entry n ≡ false
  no_entry_lem n g group =
      ne_eqb (at i).entry n (λ same.
      let denied = sym none ∙ ap (λ (k : ℕ). members_of (definition_at dictionary k)) same ∙ group in
      let z : ◌≡◌ {A = ℕ} 0 1 = cc in absurd (omega arith))

  pub no_rows : no_refusal ≡ group_at at count i
  no_rows = rw none

  pub not_policy : is_policy (at i) ≡ false
  unfolding dictionary number_where definition_at
  not_policy = rw (no_entry_lem (entry_of dictionary vendor_3gpp 4207) TransferPolicy refl)

  pub no_policy : no_refusal ≡ policy_logged at count i
  unfolding policy_logged
  no_policy = rw not_policy

  pub no_window : (xs : List Avp) (s : List ℕ) → no_refusal ≡ window_logged at xs s count i
  unfolding dictionary number_where definition_at window_logged
  no_window xs s = rw (no_entry_lem (entry_of dictionary vendor_3gpp 4204) TimeWindow refl)

-- ---- what judging a list gives, and the groups

module _ {A : Type 0} where
  pub passed_refused : (o : Outcome) (a : A) (v : Verdict) → passed_with o a ≡ Err v → o ≡ Err v
  passed_refused (Ok u) a v e = let z : ◌≡◌ {A = ℕ} 0 1 = cc in absurd (omega arith)
  passed_refused (Err w) a v e = let same : w ≡ v = cc in rw same

  pub passed_all : (o : Outcome) (a b : A) → passed_with o a ≡ Ok b → (o ≡ no_refusal) × (a ≡ b)
  passed_all (Ok u) a b e = (refl, cc)
  passed_all (Err w) a b e = let z : ◌≡◌ {A = ℕ} 0 1 = cc in absurd (omega arith)

module _ (at : ℕ → Logged) (xs : List Avp) (s : List ℕ) (count : ℕ) where
  abbrev rows_of_groups : Outcome
  rows_of_groups = first_fault (group_at at count) count 0

  pub groups_refused : (r : Result Groups Verdict) (v : Verdict) → rows_of_groups ≡ Err v → r ≡ Err v → r ≡ groups_in at xs s count
  groups_refused r v e is = rw e is

  pub groups_passed : (g : Groups) → rows_of_groups ≡ no_refusal → g.number ≡ policy_number_from at count 0
      → g.policies ≡ first_fault (policy_logged at count) count 0
      → g.windows ≡ first_fault (window_logged at xs s count) count 0
      → Ok g ≡ groups_in at xs s count
  groups_passed g e number policies windows = rw (e, ← number, ← policies, ← windows)

-- ---- the command's list, then the groups, then the exchange rules

module _ (at : ℕ → Logged) (xs : List Avp) (rules : CommandRules) (s : List ℕ) (end count : ℕ) where
  abbrev own : Outcome
  own = list_by at rules.rows end 0 count

  pub own_refused : (v : Verdict) → own ≡ Err v → Err v ≡ lists_by at xs rules s end count
  unfolding lists_by rows_by
  own_refused v e = rw e

  module _ (passed : own ≡ no_refusal) (groups : Result Groups Verdict) (all : groups ≡ groups_in at xs s count) where
    pub group_refused : (v : Verdict) → groups ≡ Err v → Err v ≡ lists_by at xs rules s end count
    unfolding lists_by rows_by
    group_refused v e = rw (passed, passed_refused _ _ v (sym all ∙ e))

    pub rows_passed : (g : Groups) → groups ≡ Ok g
        → exchange_by (find_in (firsts_from count at 0 count no_firsts) count) rules.exchange xs s end g.number g.policies g.windows
        ≡ lists_by at xs rules s end count
    unfolding lists_by rows_by
    rows_passed g e =
        let both = passed_all _ _ g (sym all ∙ e) in
        rw (passed, both.0, ← both.1)
