-- What the entry of a name leads to: no other name, the row and the members that the name has, and by first positions
-- what a search for the name finds.
use mathlib.Core.Path.{◌≡◌, refl, sym, ap, ◌∙◌}
use Rattle.std.specs.Prelude.{Option, Some, None}
use mathlib.Core.Bool.{Bool, true, false, cond, ◌&&◌}
use mathlib.Core.List.{List, [], ◌∷◌}
use Prim.Native.Nat.{ℕ, suc, ◌+◌, ◌≤◌, ◌<◌}
use native.Mathlib.Omega.{arith}
use borrow.Author.Tests.{lt-ltb, le-ltb, eq-eqb, ne_eqb, eqb-true}
use lib.Dec.{T, eqb, ltb, ltb→lt}
use lib.ListN.{length, get_or}
use Rattle.rules.specs.declared.Avp.{Avp}
use Rattle.rules.specs.declared.Admission.{Admission}
use Rattle.rules.specs.declared.Grammar.{Grammar}
use Rattle.rules.specs.declared.Grammar.TheVariants.{Request, Answer, ErrorAnswer, VendorSpecificApplicationId, ExperimentalResult}
use Rattle.rules.specs.declared.Grammar.TheVariants.{ProxyInfo, SupportedFeatures, TimeWindow, TransferPolicy}
use Rattle.rules.specs.Rows.{Row, rows_of}
use Rattle.rules.specs.Walk.{most_avps}
use Rattle.rules.specs.Search.{is_at, first_from, position_of}
use Rattle.rules.specs.declared.Entry.{Entry}
use Rattle.rules.specs.Dictionary.{dictionary, find, is_known, members_of}
use Rattle.rules.specs.RowChecks.{admission_from, admission, by_row}
use Rattle.rules.proofs.Names.{both_hold}
use Rattle.rules.proofs.Tests.{and_true}
use Rattle.rules.proofs.Searches.{first_none, first_next}
use Rattle.dictionary.specs.Entries.{number_where, entry_of, said_at, definition_at}
use Rattle.dictionary.proofs.Entries.{found_is}
use Rattle.exchange.specs.Firsts.{found_below, find_in}
use Rattle.lists.specs.ByLog.{admission_at}

-- ---- two names with the same entry

-- an entry that passes two tests
abbrev PassesBoth : (Entry → Bool) → (Entry → Bool) → Type 0
PassesBoth test other = (e : Entry) × ((test e ≡ true) × (other e ≡ true))

-- two searches that both find the first entry, or the same one of the later ones
both_next : (test other : Entry → Bool) (e : Entry) (m n count : ℕ) (b c : Bool) → test e ≡ b → other e ≡ c
    → cond b 0 (suc n) < suc count → cond c 0 (suc m) ≡ cond b 0 (suc n)
    → (n < count → m ≡ n → PassesBoth test other) → PassesBoth test other
both_next test other e m n count true true p q h same later = (e, (p, q))
both_next test other e m n count true false p q h same later = absurd (omega arith)
both_next test other e m n count false true p q h same later = absurd (omega arith)
both_next test other e m n count false false p q h same later = later (omega arith) (omega arith)

-- the entry that two searches find passes both tests
passes_both : (test other : Entry → Bool) (es : List Entry) → number_where test es < length es
    → number_where other es ≡ number_where test es → PassesBoth test other
unfolding number_where
passes_both test other [] h same = absurd (omega arith)
passes_both test other (e ∷ es) h same =
    both_next test other e (number_where other es) (number_where test es) (length es) _ _ refl refl h same
    (passes_both test other es)

module _ (es : List Entry) (vendor code : ℕ) (known : entry_of es vendor code < length es) where
  -- a second name with the entry of a known name is the same name
  same_name : (vendor2 code2 : ℕ) → entry_of es vendor2 code2 ≡ entry_of es vendor code
      → (vendor2 ≡ vendor) × (code2 ≡ code)
  same_name vendor2 code2 same =
      let both = passes_both (λ e. eqb code e.code && eqb vendor e.vendor)
      (λ e. eqb code2 e.code && eqb vendor2 e.vendor) es known same in
      let first = and_true (eqb code both.0.code) (eqb vendor both.0.vendor) both.1.0 in
      let second = and_true (eqb code2 both.0.code) (eqb vendor2 both.0.vendor) both.1.1 in (
        eqb-true _ _ second.1 ∙ sym (eqb-true _ _ first.1),
        eqb-true _ _ second.0 ∙ sym (eqb-true _ _ first.0),
      )

  -- so the entries are the same exactly where the names are
  entry_is : (vendor2 code2 : ℕ) (own : Bool) → (eqb vendor2 vendor && eqb code2 code) ≡ own
      → eqb (entry_of es vendor2 code2) (entry_of es vendor code) ≡ own
  entry_is vendor2 code2 true h =
      let same = and_true (eqb vendor2 vendor) (eqb code2 code) h in
      rw (eqb-true vendor2 vendor same.0, eqb-true code2 code same.1) (eq-eqb (entry_of es vendor code) _ refl)
  entry_is vendor2 code2 false h =
      ne_eqb (entry_of es vendor2 code2) (entry_of es vendor code) (λ e.
      let same = same_name vendor2 code2 e in
      let denied = rw (eq-eqb vendor2 vendor same.0, eq-eqb code2 code same.1) at h in
      let z : ◌≡◌ {A = ℕ} 0 1 = cc in absurd (omega arith))

  -- and no other name has a known name's entry
  pub known_only : (vendor2 code2 : ℕ)
      → eqb (entry_of es vendor2 code2) (entry_of es vendor code) ≡ (eqb vendor2 vendor && eqb code2 code)
  known_only vendor2 code2 = entry_is vendor2 code2 _ refl

-- ---- the row and the members of a name by its entry

-- what is said of each entry by its name, said by the number of a name's entry
module _ {A : Type 0} (without : A) (says : ℕ → ℕ → A) (vendor code : ℕ) where
  -- where no entry has the number, the same is said without one
  abbrev Lacking : List Entry → ℕ → Type 0
  Lacking es n = is_known (definition_at es n) ≡ false → without ≡ says vendor code

  abbrev Said : List Entry → ℕ → Type 0
  Said es n = said_at without (λ e. says e.vendor e.code) es n ≡ says vendor code

  -- the first entry, or the later ones
  said_next : (e : Entry) (es : List Entry) (n : ℕ) (b : Bool) → (eqb code e.code && eqb vendor e.vendor) ≡ b
      → Lacking (e ∷ es) (cond b 0 (suc n)) → (Lacking es n → Said es n) → Said (e ∷ es) (cond b 0 (suc n))
  unfolding definition_at
  said_next e es n true named h later =
      let same = and_true (eqb code e.code) (eqb vendor e.vendor) named in
      rw (eqb-true code e.code same.0, eqb-true vendor e.vendor same.1)
  said_next e es n false named h later = later h

  said_by_name : (es : List Entry) → Lacking es (entry_of es vendor code) → Said es (entry_of es vendor code)
  unfolding definition_at number_where
  said_by_name [] h = h refl
  said_by_name (e ∷ es) h =
      said_next e es (entry_of es vendor code) _ refl h (said_by_name es)

-- each of these rows names an entry
abbrev all_known : List Entry → List Row → Bool
all_known es [] = true
all_known es (r ∷ rs) = is_known (find es r.vendor r.code) && all_known es rs

-- a name that no entry has has no row
module _ (es : List Entry) (vendor code : ℕ) (unknown : is_known (find es vendor code) ≡ false) where
  no_row_next : (r : Row) (row later : Option Admission) (b : Bool) → (eqb vendor r.vendor && eqb code r.code) ≡ b
      → T (is_known (find es r.vendor r.code)) → None ≡ later → None ≡ cond b row later
  no_row_next r row later true named t h =
      let same = and_true (eqb vendor r.vendor) (eqb code r.code) named in
      let not_known = rw (eqb-true vendor r.vendor same.0, eqb-true code r.code same.1) at unknown in
      absurd (rw not_known at t)
  no_row_next r row later false named t h = h

  no_row : (rs : List Row) (i : ℕ) → T (all_known es rs) → None ≡ admission_from i rs vendor code
  unfolding admission_from
  no_row [] i t = refl
  no_row (r ∷ rs) i t =
      let both = both_hold (is_known (find es r.vendor r.code)) (all_known es rs) t in
      let later = no_row rs (i + 1) both.1 in
      no_row_next r (by_row i r.mark) (admission_from (i + 1) rs vendor code) _ refl both.0 later

-- computed: each row of each list names an entry of the dictionary
rows_known : (g : Grammar) → T (all_known dictionary (rows_of g))
unfolding rows_of dictionary find
rows_known Request = tt
rows_known Answer = tt
rows_known ErrorAnswer = tt
rows_known VendorSpecificApplicationId = tt
rows_known ExperimentalResult = tt
rows_known ProxyInfo = tt
rows_known SupportedFeatures = tt
rows_known TimeWindow = tt
rows_known TransferPolicy = tt

-- the row by the entry of a name is the row that names it
pub row_by_entry : (g : Grammar) (vendor code : ℕ)
    → admission_at g (entry_of dictionary vendor code) ≡ admission g vendor code
unfolding admission_at
row_by_entry g vendor code =
    said_by_name None (admission g) vendor code dictionary
    (λ h. no_row dictionary vendor code (rw (found_is dictionary vendor code) at h) (rows_of g) 0 (rows_known g))

-- the members by the entry of a name are those that the dictionary says of it
pub members_by_entry : (vendor code : ℕ)
    → members_of (definition_at dictionary (entry_of dictionary vendor code)) ≡ members_of (find dictionary vendor code)
members_by_entry vendor code = ap members_of (found_is dictionary vendor code)

-- ---- a search by first positions

-- what a search found, where it found anything, stands from position i on, before position `stop`
abbrev pub Among : ℕ → ℕ → Option ℕ → Type 0
Among i stop (Some k) = (i ≤ k) × (k < stop)
Among i stop None = Unit {0}

-- the same with an AVP at position i before the others
among_next : (i n : ℕ) (above own : Bool) (found : Option ℕ) → Among (i + 1) (i + 1 + n) found
    → Among i (i + suc n) (cond above None (cond own (Some i) found))
among_next i n true own found later = tt
among_next i n false true found later = (omega arith, omega arith)
among_next i n false false (Some k) later = (omega (arith, later.0), omega (arith, later.1))
among_next i n false false None later = tt

pub first_among : (vendor code : ℕ) (xs : List Avp) (i floor depth : ℕ)
    → Among i (i + length xs) (first_from i floor depth xs vendor code)
first_among vendor code [] i floor depth = rw (first_none i floor depth vendor code) tt
first_among vendor code (a ∷ xs) i floor depth =
    rw (first_next i floor depth a xs vendor code)
    (among_next i (length xs) (ltb a.depth floor) (is_at a depth vendor code) _
    (first_among vendor code xs (i + 1) floor depth))

-- as a number: no position before i, and at most that for none
abbrev Within : ℕ → Option ℕ → Type 0
Within i found = (i ≤ position_of found) × (position_of found ≤ most_avps)

among_within : (i stop : ℕ) (found : Option ℕ) → i ≤ most_avps → stop ≤ most_avps → Among i stop found → Within i found
among_within i stop (Some k) from few h = (h.0, omega (arith, h.1))
among_within i stop None from few h = (from, omega arith)

pub first_within : (vendor code : ℕ) (xs : List Avp) (i floor depth : ℕ) → i + length xs ≤ most_avps
    → Within i (first_from i floor depth xs vendor code)
first_within vendor code xs i floor depth few =
    among_within i (i + length xs) (first_from i floor depth xs vendor code) (omega arith) few
    (first_among vendor code xs i floor depth)

-- a name that the dictionary has
abbrev pub IsKnown : ℕ → ℕ → Type 0
IsKnown vendor code = T (ltb (entry_of dictionary vendor code) (length dictionary))

module _ (i count : ℕ) (few : count ≤ most_avps) where
  -- from the number, what was found
  found_below_lem : (found : Option ℕ) → Among i count found → found_below count (position_of found) ≡ found
  found_below_lem (Some k) h = rw (lt-ltb k count h.1)
  found_below_lem None h = rw (le-ltb most_avps count few)

  -- a search by positions that are those of another search, for the names of the dictionary, finds the same
  pub find_same : (found : ℕ → ℕ → Option ℕ) → ((vendor code : ℕ) → Among i count (found vendor code)) → (firsts : List ℕ)
      → ((vendor code : ℕ) → entry_of dictionary vendor code < length dictionary
      → get_or firsts (entry_of dictionary vendor code) most_avps ≡ position_of (found vendor code))
      → (vendor code : ℕ) → IsKnown vendor code → find_in firsts count vendor code ≡ found vendor code
  unfolding find_in
  find_same found among firsts h vendor code known =
      ap (found_below count) (h vendor code (ltb→lt (entry_of dictionary vendor code) (length dictionary) known))
      ∙ found_below_lem (found vendor code) (among vendor code)
