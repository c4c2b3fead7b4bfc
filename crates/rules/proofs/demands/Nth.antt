-- The AVP of an ordinal among those at a depth with a vendor and code: how many stand before a position, and which
-- position the search's list of positions has at an ordinal. One law serves the command's own list and the members of a
-- group; Found says what it means for a search.
use mathlib.Core.Path.{◌≡◌, refl, sym, ap, ◌∙◌}
use Rattle.std.specs.Prelude.{Option, Some, None}
use mathlib.Core.Bool.{true, false}
use mathlib.Core.Logic.{◌↔◌}
use mathlib.Core.List.{List, [], ◌∷◌}
use Prim.Native.Nat.{ℕ, zero, suc, ◌+◌, ◌≤◌, ◌<◌}
use native.Mathlib.Nat.{add-zero}
use native.Mathlib.Omega.{arith}
use borrow.Author.Tests.{ltb-true, ltb-false}
use lib.Dec.{ltb}
use lib.ListN.{length, take}
use Rattle.rules.specs.declared.Avp.{Avp}
use Rattle.rules.specs.Search.{avp_in, is_at, positions_from, nth, position_of, how_many}
use Rattle.rules.proofs.Walk.{by_cases}
use Rattle.rules.proofs.Searches.{positions_above, positions_here, positions_later, positions_none}

-- no AVP up to a position stands above the depth `floor`
abbrev pub Inside : ℕ → List Avp → ℕ → Type 0
Inside floor xs k = (j : ℕ) → j ≤ k → floor ≤ (avp_in xs j).depth

-- the AVP at a position stands at a depth with a vendor and code, with as many such AVPs before it as the ordinal says,
-- and before any AVP above the depth `floor`
pub record IsNth (floor depth : ℕ) (xs : List Avp) (vendor code ordinal k : ℕ) : Type 0 where
  pub within : k < length xs
  pub here : is_at (avp_in xs k) depth vendor code ≡ true
  pub before : how_many depth vendor code (take k xs) ≡ ordinal
  pub inside : Inside floor xs k

-- ---- how many there are among the first AVPs

module _ (depth vendor code : ℕ) where
  many_here : (a : Avp) (xs : List Avp) → is_at a depth vendor code ≡ true
      → how_many depth vendor code (a ∷ xs) ≡ suc (how_many depth vendor code xs)
  unfolding how_many
  many_here a xs e = rw e (omega arith)

  many_other : (a : Avp) (xs : List Avp) → is_at a depth vendor code ≡ false
      → how_many depth vendor code (a ∷ xs) ≡ how_many depth vendor code xs
  unfolding how_many
  many_other a xs e = rw e (omega arith)

  many_none : how_many depth vendor code [] ≡ 0
  unfolding how_many
  many_none = refl

  -- none among them exactly when each is another
  pub none_before : (xs : List Avp) (k : ℕ) → how_many depth vendor code (take k xs) ≡ 0
      → (j : ℕ) → j < k → j < length xs → is_at (avp_in xs j) depth vendor code ≡ false
  none_before [] k e j h l = absurd (omega arith)
  none_before (a ∷ xs) zero e j h l = absurd (omega arith)
  none_before (a ∷ xs) (suc k) e zero h l =
      by_cases (is_at a depth vendor code)
      (λ t. absurd (omega (arith, sym (many_here a (take k xs) t) ∙ e)))
      (λ t. t)
  none_before (a ∷ xs) (suc k) e (suc j) h l =
      by_cases (is_at a depth vendor code)
      (λ t. absurd (omega (arith, sym (many_here a (take k xs) t) ∙ e)))
      (λ t. none_before xs k (sym (many_other a (take k xs) t) ∙ e) j (omega arith) (omega arith))

  pub before_none : (xs : List Avp) (k : ℕ)
      → ((j : ℕ) → j < k → j < length xs → is_at (avp_in xs j) depth vendor code ≡ false) → how_many depth vendor code (take k xs) ≡ 0
  before_none xs zero f = many_none
  before_none [] (suc k) f = many_none
  before_none (a ∷ xs) (suc k) f =
      many_other a (take k xs) (f 0 (omega arith) (omega arith))
      ∙ before_none xs k (λ j h l. f (suc j) (omega arith) (omega arith))

-- ---- one law over the positions

-- a position is no `Nothing`
pub not_nothing : {C : Type 0} {i : ℕ} → None ≡ Some i → C
not_nothing e = let z : ◌≡◌ {A = ℕ} 0 1 = cc in absurd (omega arith)

-- two lists that are the same have the same at an ordinal
as_in : (is js : List ℕ) (n j : ℕ) → is ≡ js → nth is n ≡ Some j → nth js n ≡ Some j
as_in is js n j p e = rw p at e

module _ (floor depth vendor code : ℕ) where
  abbrev Nth : List Avp → ℕ → ℕ → Type 0
  Nth xs n k = IsNth floor depth xs vendor code n k

  abbrev at : ℕ → List Avp → ℕ → Option ℕ
  at i xs n = nth (positions_from i floor depth xs vendor code) n

  -- behind the first AVP, counted among the others
  others : (a : Avp) (xs : List Avp) (n k : ℕ) → Nth (a ∷ xs) n (suc k)
      → Nth xs (how_many depth vendor code (take k xs)) k
  others a xs n k f =
      let long = f.within in
      record {
        within = omega arith;
        here = f.here;
        before = refl;
        inside = λ j h. f.inside (suc j) (omega arith);
      }

  -- the AVP of an ordinal is found
  pub nth_is_found : (xs : List Avp) (i n k : ℕ) → Nth xs n k → at i xs n ≡ Some (i + k)
  nth_is_found [] i n k f = absurd (omega (arith, f.within))
  nth_is_found (a ∷ xs) i n zero f =
      let none : n ≡ 0 = sym f.before ∙ many_none depth vendor code in
      rw (positions_here i floor depth a xs vendor code (f.inside 0 (omega arith)) f.here, none, add-zero i)
  nth_is_found (a ∷ xs) i n (suc k) f =
      let in_list : floor ≤ a.depth = f.inside 0 (omega arith) in
      let later = nth_is_found xs (i + 1) (how_many depth vendor code (take k xs)) k (others a xs n k f) in
      let place : i + 1 + k ≡ i + suc k = omega arith in
      by_cases (is_at a depth vendor code)
      (λ e.
      let m = sym f.before ∙ many_here depth vendor code a (take k xs) e in
      rw (positions_here i floor depth a xs vendor code in_list e, m, ← place) later)
      (λ e.
      let m = sym f.before ∙ many_other depth vendor code a (take k xs) e in
      rw (positions_later i floor depth a xs vendor code in_list e, m, ← place) later)

  -- what is found is the AVP of the ordinal; k is its position among those that are searched
  pub record IsFound (xs : List Avp) (i n j : ℕ) : Type 0 where
    pub k : ℕ
    pub place : i + k ≡ j
    pub nth_one : Nth xs n k

  -- with an AVP of the list before those that are searched
  module _ (a : Avp) (xs : List Avp) (i j : ℕ) (in_list : floor ≤ a.depth)
      (later : (m : ℕ) → at (i + 1) xs m ≡ Some j → IsFound xs (i + 1) m j) where
    on : (n m : ℕ) → ((k : ℕ) → how_many depth vendor code (take k xs) ≡ m
        → how_many depth vendor code (take (suc k) (a ∷ xs)) ≡ n) → at (i + 1) xs m ≡ Some j → IsFound (a ∷ xs) i n j
    on n m more e =
        let f = later m e in
        let p = f.place in
        let one = f.nth_one in
        let long = one.within in
        record {
          k = suc f.k;
          place = omega arith;
          nth_one = record {
            within = omega arith;
            here = one.here;
            before = more f.k one.before;
            inside = next_inside f.k one.inside;
          };
        }
      where
        next_inside : (k : ℕ) → Inside floor xs k → Inside floor (a ∷ xs) (suc k)
        next_inside k f zero h = in_list
        next_inside k f (suc j) h = f j (omega arith)

    own : (n : ℕ) → is_at a depth vendor code ≡ true → at i (a ∷ xs) n ≡ Some j → IsFound (a ∷ xs) i n j
    own zero t e =
        let here = as_in _ _ 0 j (positions_here i floor depth a xs vendor code in_list t) e in
        let p : i ≡ j = ap position_of here in
        record {
          k = 0;
          place = omega arith;
          nth_one = record { within = omega arith; here = t; before = many_none depth vendor code; inside = only };
        }
      where
        only : Inside floor (a ∷ xs) 0
        only zero h = in_list
        only (suc k) h = absurd (omega arith)
    own (suc n) t e =
        on (suc n) n (λ k m. many_here depth vendor code a (take k xs) t ∙ ap suc m)
        (as_in _ _ (suc n) j (positions_here i floor depth a xs vendor code in_list t) e)

    other : (n : ℕ) → is_at a depth vendor code ≡ false → at i (a ∷ xs) n ≡ Some j → IsFound (a ∷ xs) i n j
    other n t e =
        on n n (λ k m. many_other depth vendor code a (take k xs) t ∙ m)
        (as_in _ _ n j (positions_later i floor depth a xs vendor code in_list t) e)

  pub found_is_nth : (xs : List Avp) (i n j : ℕ) → at i xs n ≡ Some j → IsFound xs i n j
  found_is_nth [] i n j e = not_nothing (as_in _ _ n j (positions_none i floor depth vendor code) e)
  found_is_nth (a ∷ xs) i n j e =
      let later : (m : ℕ) → at (i + 1) xs m ≡ Some j → IsFound xs (i + 1) m j = λ m. found_is_nth xs (i + 1) m j in
      by_cases (ltb a.depth floor)
      (λ h. not_nothing (as_in _ _ n j (positions_above i floor depth a xs vendor code (ltb-true _ _ h)) e))
      (λ h. by_cases (is_at a depth vendor code)
      (λ t. own a xs i j (ltb-false _ _ h) later n t e)
      (λ t. other a xs i j (ltb-false _ _ h) later n t e))

  -- counted from i, a position is given for an ordinal exactly when the AVP of that ordinal is there
  pub nth_is : (xs : List Avp) (i n k : ℕ) → (at i xs n ≡ Some (i + k)) ↔ Nth xs n k
  nth_is xs i n k = (
    λ e.
        let f = found_is_nth xs i n (i + k) e in
        let q : f.k ≡ k = omega (arith, f.place) in
        rw q at f.nth_one,
    λ f. nth_is_found xs i n k f,
  )
