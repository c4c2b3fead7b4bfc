-- Laws of the search by first positions: the name of an entry leads back to its number.
use mathlib.Core.Path.{◌≡◌, refl, sym, ◌∙◌}
use Rattle.std.specs.Prelude.{Option, Some, None}
use Rattle.std.specs.Bool.{then_some}
use mathlib.Core.List.{List, [], ◌∷◌}
use mathlib.Core.Bool.{Bool, true, false, ◌&&◌}
use mathlib.Core.Logic.{⊎_elim}
use Prim.Native.Nat.{ℕ, zero, suc, ◌<◌, ◌≤◌}
use native.Mathlib.Nat.{eq-or-lt_of_le}
use native.Mathlib.Omega.{arith}
use lib.Dec.{T, eqb, eqb→eq, ltb}
use lib.ListN.{length, get_or, get_or-eq_default}
use borrow.Author.Tests.{lt-ltb, le-ltb, ltb-true, ltb-false}
use Rattle.rules.specs.Walk.{most_avps}
use Rattle.rules.specs.Dictionary.{dictionary}
use Rattle.rules.proofs.Names.{both_hold}
use Rattle.dictionary.proofs.Entries.{said_behind}
use Rattle.dictionary.specs.Entries.{number_where, entry_of, vendor_of, code_of}
use Rattle.exchange.specs.Positions.{IsFoundAmong}
use Rattle.exchange.specs.Firsts.{find_in}
use Rattle.exchange.proofs.Searches.{found_at, found_nothing}

-- ---- the entry that the name of an entry leads to

abbrev entries : ℕ
entries = 48

abbrev named_by : ℕ → ℕ
named_by entry = entry_of dictionary (vendor_of dictionary entry) (code_of dictionary entry)

-- a test of each number below n
abbrev all_below : (ℕ → Bool) → ℕ → Bool
all_below test zero = true
all_below test (suc n) = test n && all_below test n

one_below : (test : ℕ → Bool) (n i : ℕ) → T (all_below test n) → i < n → T (test i)
one_below test zero i t h = absurd (omega arith)
one_below test (suc n) i t h =
    let b = both_hold (test n) (all_below test n) t in
    ⊎_elim (λ e. rw e b.0) (λ l. one_below test n i b.1 l) (eq-or-lt_of_le (omega arith))

own_name : (entry : ℕ) → entry < entries → named_by entry ≡ entry
unfolding dictionary number_where vendor_of code_of
own_name entry h = eqb→eq (named_by entry) entry (one_below (λ e. eqb (named_by e) e) entries entry tt h)

-- a number behind the last entry has the name of none
no_name : (entry : ℕ) → entries ≤ entry → named_by entry ≡ entries
unfolding dictionary number_where vendor_of code_of
no_name entry h =
    let vendor = said_behind 0 (λ e. e.vendor) dictionary entry h in
    let code = said_behind 0 (λ e. e.code) dictionary entry h in
    rw (vendor, code)

-- ---- the first position of an entry

-- a number within a list, whatever stands for one behind it
pub within : (l : List ℕ) (n d e : ℕ) → n < length l → get_or l n d ≡ get_or l n e
within [] n d e h = absurd (omega arith)
within (x ∷ l) zero d e h = refl
within (x ∷ l) (suc n) d e h = within l n d e (omega arith)

module _ (firsts : List ℕ) (size : length firsts ≡ entries) (count entry i : ℕ)
    (first : i ≡ get_or firsts entry most_avps) where
  none_behind : (n : ℕ) → entries ≤ n → get_or firsts n most_avps ≡ most_avps
  none_behind n h = get_or-eq_default firsts most_avps (omega arith)

  by_name : (known : Bool) → ltb entry entries ≡ known → get_or firsts (named_by entry) most_avps ≡ i
  by_name true h = rw (own_name entry (ltb-true entry entries h)) (sym first)
  by_name false h =
      let behind = ltb-false entry entries h in
      rw (no_name entry behind) (none_behind entries (omega arith) ∙ sym (first ∙ none_behind entry behind))

  of_name : get_or firsts (named_by entry) most_avps ≡ i
  of_name = by_name (ltb entry entries) refl

  abbrev Answer : Option ℕ → Type 0
  Answer r = IsFoundAmong (find_in firsts count (vendor_of dictionary entry) (code_of dictionary entry)) count r

  first_found_lem : i < count → Answer (Some i)
  unfolding find_in
  first_found_lem h = found_at _ count i h (rw (of_name, lt-ltb i count h))

  pub first_absent : count ≤ i → Answer None
  unfolding find_in
  first_absent h = found_nothing _ count (rw (of_name, le-ltb i count h))

  by_test : (used : Bool) → ltb i count ≡ used → Answer (then_some used i)
  by_test true h = first_found_lem (ltb-true i count h)
  by_test false h = first_absent (ltb-false i count h)

  pub first_if_used : Answer (then_some (ltb i count) i)
  first_if_used = by_test (ltb i count) refl
