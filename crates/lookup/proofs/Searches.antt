-- Laws of a search AVP by AVP: what the next one makes of it, and what it gives among those of a record.
use mathlib.Core.Path.{◌≡◌, refl, sym, ap, ◌∙◌}
use Rattle.std.specs.Prelude.{Option, Some, None}
use mathlib.Core.List.{List, [], ◌∷◌, ◌++◌, append-nil}
use mathlib.Core.Bool.{Bool, true, false, ◌&&◌}
use Rattle.std.proofs.Common.{eqb, ne_eqb}
use Prim.Native.Nat.{ℕ, ◌+◌, ◌≤◌, ◌<◌, min}
use native.Mathlib.Nat.{zero-add}
use native.Mathlib.Numerals.{add-one}
use native.Mathlib.Omega.{arith}
use lib.ListN.{length, take, length-append}
use lib.Seq.{take-suc, take_all, length-take-le}
use Rattle.rules.specs.declared.Avp.{Avp}
use Rattle.rules.specs.declared.Record.{Record}
use Rattle.rules.specs.declared.Sought.{Sought}
use Rattle.rules.specs.Walk.{most_avps}
use Rattle.rules.specs.Search.{blank, is_at, with_position, nth, positions, search, position_of}
use Rattle.rules.specs.Record.{recorded, search_record}
use Rattle.rules.proofs.Searches.{positions_none, positions_more, nth_last, nth_before, positions_few}
use Rattle.rules.proofs.demands.Found.{search_nth}
use Rattle.numbers.specs.Numbers.{numbered_avp, numbered_count, numbered_record, numbered_used}
use Rattle.numbers.proofs.Positions.{used_many, used_at}
use Rattle.lookup.specs.Promise.{IsSought, SoughtNext}

-- ---- the answer

position_room : (xs : List Avp) (vendor code ordinal : ℕ) → length xs ≤ most_avps → (f : Option ℕ)
    → (search xs vendor code ordinal).found ≡ f → position_of f ≤ most_avps
position_room xs vendor code ordinal few (Some i) e =
    let h = ((search_nth xs vendor code ordinal i).0 e).within in
    omega arith
position_room xs vendor code ordinal few None e = omega arith

pub is_sought : (r : Record) (vendor code ordinal : ℕ) → length (recorded r) ≤ most_avps → (sought : Sought)
    → sought ≡ search_record r vendor code ordinal → IsSought r vendor code ordinal sought
unfolding search_record
is_sought r vendor code ordinal few sought e =
    let number = positions_few (recorded r) 0 1 vendor code in
    record {
      is = e;
      told = ap (λ (s : Sought). position_of s.found) e;
      room = rw e (position_room (recorded r) vendor code ordinal few _ refl);
      few = rw e (omega arith);
    }

-- ---- the search with one AVP more behind the others

module _ (xs : List Avp) (a : Avp) (vendor code ordinal : ℕ) where
  abbrev before : List ℕ
  before = positions xs vendor code

  after : (own : Bool) → is_at a 1 vendor code ≡ own → positions (xs ++ (a ∷ [])) vendor code ≡ before ++ with_position own (length xs) []
  after own e = positions_more xs 0 1 a vendor code ∙ rw (e, zero-add (length xs))

  sought : (is : List ℕ) (found : Option ℕ) (number : ℕ) → positions (xs ++ (a ∷ [])) vendor code ≡ is
      → nth is ordinal ≡ found → length is ≡ number
      → search (xs ++ (a ∷ [])) vendor code ordinal ≡ record { found = found; number = number }
  sought is found number e f n = rw (e, f, n)

  pub search_other : is_at a 1 vendor code ≡ false
      → search (xs ++ (a ∷ [])) vendor code ordinal ≡ search xs vendor code ordinal
  search_other e = sought before _ _ (after false e ∙ append-nil before) refl refl

  module _ (own : is_at a 1 vendor code ≡ true) where
    one_more : length (before ++ (length xs ∷ [])) ≡ length before + 1
    one_more = length-append before (length xs ∷ [])

    pub search_here : length before ≡ ordinal
        → search (xs ++ (a ∷ [])) vendor code ordinal ≡ record { found = Some (length xs); number = length before + 1 }
    search_here e = sought _ _ _ (after true own) (rw (← e) (nth_last before (length xs))) one_more

    pub search_past : (length before ≡ ordinal → ⊥)
        → search (xs ++ (a ∷ [])) vendor code ordinal
        ≡ record { found = (search xs vendor code ordinal).found; number = length before + 1 }
    search_past n = sought _ _ _ (after true own) (nth_before before (length xs) ordinal n) one_more

-- ---- from any AVPs to those with one more behind them: nothing, the one that the ordinal says, or another of them

-- what a search gives once it has counted one more
abbrev pub counted : Option ℕ → ℕ → Sought
counted found so_far = record { found = found; number = so_far + 1 }

counted_same : {f g : Option ℕ} {n m : ℕ} → f ≡ g → n ≡ m → counted f n ≡ counted g m
counted_same e f = rw (e, f)

neither : (b c : Bool) → (b && (c && false)) ≡ false
neither true true = refl
neither true false = refl
neither false c = refl

-- an AVP of another code is none that the search looks for
pub other_code : (a : Avp) (vendor code : ℕ) → (a.code ≡ code → ⊥) → is_at a 1 vendor code ≡ false
other_code a vendor code n = rw (ne_eqb a.code code n) (neither (eqb a.depth 1) (eqb a.vendor vendor))

module _ (before : Sought) (a : Avp) (position vendor code ordinal : ℕ) where
  pub next_other : is_at a 1 vendor code ≡ false → SoughtNext before a position vendor code ordinal before
  next_other other xs long e = e ∙ sym (search_other xs a vendor code ordinal other)

  module _ (own : is_at a 1 vendor code ≡ true) where
    pub next_here : before.number ≡ ordinal
        → SoughtNext before a position vendor code ordinal (counted (Some position) before.number)
    next_here here xs long e =
        let number = ap (λ (s : Sought). s.number) e in
        counted_same (ap Some (sym long)) number ∙ sym (search_here xs a vendor code ordinal own (sym number ∙ here))

    pub next_past : (before.number ≡ ordinal → ⊥)
        → SoughtNext before a position vendor code ordinal (counted before.found before.number)
    next_past past xs long e =
        let number = ap (λ (s : Sought). s.number) e in
        counted_same (ap (λ (s : Sought). s.found) e) number
        ∙ sym (search_past xs a vendor code ordinal own (λ n. past (number ∙ n)))

-- ---- AVP by AVP

module _ (numbers : List ℕ) (vendor code ordinal : ℕ) where
  -- what the search gives among the first i AVPs
  abbrev pub sought_before : ℕ → Sought
  sought_before i = search (take i (numbered_used numbers)) vendor code ordinal

  pub sought_none : record { found = None; number = 0 } ≡ sought_before 0
  sought_none = rw (positions_none 0 0 1 vendor code)

  module _ (i : ℕ) (h : i < min (numbered_count numbers) most_avps) where
    in_use : i < length (numbered_used numbers)
    in_use = rw (used_many numbers) h

    pub sought_few : (sought : Sought) → sought ≡ sought_before i → sought.number < most_avps
    sought_few sought e =
        let number = positions_few (take i (numbered_used numbers)) 0 1 vendor code in
        let long = length-take-le i (numbered_used numbers) (omega (arith, in_use)) in
        rw e (omega arith)

    pub sought_next : (before after : Sought) (a : Avp) → a ≡ numbered_avp numbers i → before ≡ sought_before i
        → SoughtNext before a i vendor code ordinal after → after ≡ sought_before (i + 1)
    sought_next before after a is e next =
        let xs = numbered_used numbers in
        let long = length-take-le i xs (omega (arith, in_use)) in
        let more : take i xs ++ (a ∷ []) ≡ take (i + 1) xs =
        rw (is, ← used_at numbers i h, add-one i) (sym (take-suc xs i blank in_use)) in
        next (take i xs) long e ∙ ap (λ (ys : List Avp). search ys vendor code ordinal) more

  pub sought_all : (i : ℕ) → min (numbered_count numbers) most_avps ≤ i → (sought : Sought) → sought ≡ sought_before i
      → IsSought (numbered_record numbers) vendor code ordinal sought
  unfolding search_record
  sought_all i h sought e =
      let many = used_many numbers in
      is_sought (numbered_record numbers) vendor code ordinal (omega arith) sought
      (e ∙ ap (λ (xs : List Avp). search xs vendor code ordinal) (take_all i (numbered_used numbers) (omega arith)))
