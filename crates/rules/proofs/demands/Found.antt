-- What a search finds: request [9]'s AVP of an ordinal among those at depth 1 with a vendor and code, none exactly when
-- the ordinal is not below their number, 01's first one, and the first member of a group.
use mathlib.Core.Path.{◌≡◌, refl, sym, ap, ◌∙◌}
use Rattle.std.specs.Prelude.{Option, Some, None}
use mathlib.Core.Bool.{true, false}
use mathlib.Core.Logic.{◌↔◌}
use mathlib.Core.List.{List}
use Prim.Native.Nat.{ℕ, ◌+◌, ◌-◌, ◌≤◌, ◌<◌}
use native.Mathlib.Omega.{arith}
use borrow.Author.Tests.{eqb-true, eq-eqb}
use lib.Dec.{eqb}
use lib.ListN.{length, take, drop, length-drop}
use lib.Seq.{take-length, get_or-drop}
use Rattle.rules.specs.declared.Avp.{Avp}
use Rattle.rules.specs.Search.{blank, avp_in, is_at, first_from, positions, search, first, member}
use Rattle.rules.specs.Search.{how_many, Stands, NthAvp, FirstAvp, FirstMember, NoAvp}
use Rattle.rules.specs.Avp.{named}
use Rattle.rules.proofs.Tests.{and_true}
use Rattle.rules.proofs.Walk.{by_cases}
use Rattle.rules.proofs.Searches.{nth_none, positions_number}
use Rattle.rules.proofs.demands.Nth.{IsNth, not_nothing, none_before, before_none, nth_is_found, found_is_nth, nth_is}
use Rattle.rules.proofs.demands.items.Lists.{not_both}

-- ---- what an AVP's test tells

module _ (a : Avp) (depth vendor code : ℕ) where
  stands : is_at a depth vendor code ≡ true → Stands a depth vendor code
  stands e =
      let x = and_true (eqb a.depth depth) (named a vendor code) e in
      let y = and_true (eqb a.vendor vendor) (eqb a.code code) x.1 in
      record { depth_is = eqb-true _ _ x.0; vendor_is = eqb-true _ _ y.0; code_is = eqb-true _ _ y.1 }

  is_at_lem : Stands a depth vendor code → is_at a depth vendor code ≡ true
  is_at_lem s =
      rw (
        eq-eqb a.depth depth s.depth_is,
        eq-eqb a.vendor vendor s.vendor_is,
        eq-eqb a.code code s.code_is,
      )

  not_stands : is_at a depth vendor code ≡ false → Stands a depth vendor code → ⊥
  not_stands e s = not_both (is_at a depth vendor code) (is_at_lem s) e

  not_at : (Stands a depth vendor code → ⊥) → is_at a depth vendor code ≡ false
  not_at n = by_cases (is_at a depth vendor code) (λ h. absurd (n (stands h))) (λ h. h)

  pub stands_named : Stands a depth vendor code → named a vendor code ≡ true
  stands_named s = rw (eq-eqb a.vendor vendor s.vendor_is, eq-eqb a.code code s.code_is)

-- the first that is found from a position on has the name
pub found_named : (floor depth vendor code : ℕ) (xs : List Avp) (i j : ℕ)
    → first_from i floor depth (drop i xs) vendor code ≡ Some j → named (avp_in xs j) vendor code ≡ true
found_named floor depth vendor code xs i j e =
    let f = found_is_nth floor depth vendor code (drop i xs) i 0 j e in
    let here = rw (get_or-drop i xs f.k blank, f.place) at f.nth_one.here in
    (and_true (eqb (avp_in xs j).depth depth) (named (avp_in xs j) vendor code) here).1

-- ---- the search

-- 02 [9]: "the one found has exactly as many of them before it at depth 1 as the ordinal says".
-- Carried by nth_is.
-- Ruled out: a search that counts ordinals from 1; one that takes a member of a group for an AVP of the command's own
-- list, or counts it.
pub search_nth : (xs : List Avp) (vendor code ordinal i : ℕ)
    → ((search xs vendor code ordinal).found ≡ Some i) ↔ NthAvp xs vendor code ordinal i
search_nth xs vendor code ordinal i =
    let q : i ≡ 0 + i = omega arith in
    let l = nth_is 0 1 vendor code xs 0 ordinal i in (
      λ e.
          let f = l.0 (e ∙ ap Some q) in
          record { within = f.within; here = stands (avp_in xs i) 1 vendor code f.here; before = f.before },
      λ f.
          l.1
          (record {
            within = f.within;
            here = is_at_lem (avp_in xs i) 1 vendor code f.here;
            before = f.before;
            inside = λ j h. omega arith;
          })
          ∙ ap Some (sym q),
    )

-- 02 [9]: "'None' now means exactly that the ordinal is not below that number".
-- Carried by nth_none (Searches).
-- Ruled out: a search that ends one too early, or one too late.
pub search_none : (xs : List Avp) (vendor code ordinal : ℕ)
    → ((search xs vendor code ordinal).found ≡ None) ↔ ((search xs vendor code ordinal).number ≤ ordinal)
search_none xs vendor code ordinal = nth_none (positions xs vendor code) ordinal

-- 02 [9]: "tell how many there are of that vendor and code at depth 1", whatever the ordinal.
-- Carried by positions_number (Searches).
-- Ruled out: the number of those before or behind the one found; one that counts members of groups.
pub search_number : (xs : List Avp) (vendor code ordinal : ℕ)
    → (search xs vendor code ordinal).number ≡ how_many 1 vendor code xs
search_number xs vendor code ordinal = positions_number xs 0 1 vendor code

-- 01: "A search gives the first AVP at depth 1 with a vendor and code, as its position"; the ordinal is 0.
-- Carried by search_nth.
-- Ruled out: a search that gives the last of several.
pub search_first : (xs : List Avp) (vendor code i : ℕ) → (first xs vendor code ≡ Some i) ↔ FirstAvp xs vendor code i
search_first xs vendor code i =
    let l = search_nth xs vendor code 0 i in (
      λ e.
          let f = l.0 e in
          let long = f.within in
          record {
            within = f.within;
            here = f.here;
            before = λ j h.
                not_stands (avp_in xs j) 1 vendor code (none_before 1 vendor code xs i f.before j h (omega arith));
          },
      λ f.
          l.1
          (record {
            within = f.within;
            here = f.here;
            before = before_none 1 vendor code xs i (λ j h k. not_at (avp_in xs j) 1 vendor code (f.before j h));
          }),
    )

-- 01: "'none' exactly when there is none".
-- Carried by search_none and search_number.
-- Ruled out: a search that misses the AVP at position 0, or the last one; one that gives the first place where there is
-- none.
pub search_absent : (xs : List Avp) (vendor code : ℕ) → (first xs vendor code ≡ None) ↔ NoAvp xs vendor code
search_absent xs vendor code =
    let l = search_none xs vendor code 0 in
    let number = search_number xs vendor code 0 in
    let all : take (length xs) xs ≡ xs = take-length xs in (
      λ e i h.
          let none : how_many 1 vendor code (take (length xs) xs) ≡ 0 = rw all (omega (arith, l.0 e, number)) in
          not_stands (avp_in xs i) 1 vendor code (none_before 1 vendor code xs (length xs) none i h h),
      λ n.
          let none : how_many 1 vendor code xs ≡ 0 =
          rw all at (before_none 1 vendor code xs (length xs) (λ j h k. not_at (avp_in xs j) 1 vendor code (n j h))) in
          l.1 (omega (arith, number, none)),
    )

-- ---- a member of a group

module _ (xs : List Avp) (k vendor code i : ℕ) where
  abbrev inner : ℕ
  inner = (avp_in xs k).depth + 1

  -- a position counted from k + 1, and one behind k
  counted : (j : ℕ) → avp_in (drop (k + 1) xs) j ≡ avp_in xs (k + 1 + j)
  counted j = get_or-drop (k + 1) xs j blank

  behind : (j : ℕ) → k < j → avp_in (drop (k + 1) xs) (j - (k + 1)) ≡ avp_in xs j
  behind j h =
      let q : k + 1 + (j - (k + 1)) ≡ j = omega arith in
      counted (j - (k + 1)) ∙ ap (avp_in xs) q

  member_there : k < i → IsNth inner inner (drop (k + 1) xs) vendor code 0 (i - (k + 1))
      → FirstMember xs k vendor code i
  member_there h f =
      let n = length-drop (k + 1) xs in
      let w = f.within in
      record {
        behind = h;
        within = omega arith;
        here = stands (avp_in xs i) inner vendor code (rw (behind i h) at f.here);
        inside = λ j l m.
            let d : inner ≤ (avp_in xs j).depth = rw (behind j l) at (f.inside (j - (k + 1)) (omega arith)) in
            omega arith;
        before = λ j l m.
            let other = none_before inner vendor code (drop (k + 1) xs) (i - (k + 1)) f.before (j - (k + 1)) (omega arith) (omega arith) in
            not_stands (avp_in xs j) inner vendor code (rw (behind j l) at other);
      }

  first_there : FirstMember xs k vendor code i → IsNth inner inner (drop (k + 1) xs) vendor code 0 (i - (k + 1))
  first_there f =
      let b = f.behind in
      let w = f.within in
      record {
        within = rw (length-drop (k + 1) xs) (omega arith);
        here = rw (behind i b) (is_at_lem (avp_in xs i) inner vendor code f.here);
        before =
            before_none inner vendor code (drop (k + 1) xs) (i - (k + 1))
            (λ j h m.
            let other = f.before (k + 1 + j) (omega arith) (omega arith) in
            rw (counted j) (not_at (avp_in xs (k + 1 + j)) inner vendor code other));
        inside = λ j h. rw (counted j) (omega (arith, f.inside (k + 1 + j) (omega arith) (omega arith)));
      }

  -- the search among the members of a group: the exchange rules go by it.
  -- Carried by found_is_nth and nth_is_found (Nth).
  -- Ruled out: one that takes a member of an inner group; one that goes on behind the group's end.
  pub member_first : (member xs k inner vendor code ≡ Some i) ↔ FirstMember xs k vendor code i
  member_first =
      let among = drop (k + 1) xs in (
        λ e.
            let f = found_is_nth inner inner vendor code among (k + 1) 0 i e in
            let q : f.k ≡ i - (k + 1) = omega (arith, f.place) in
            member_there (omega (arith, f.place)) (rw q at f.nth_one),
        λ f.
            let q : k + 1 + (i - (k + 1)) ≡ i = omega (arith, f.behind) in
            nth_is_found inner inner vendor code among (k + 1) 0 (i - (k + 1)) (first_there f) ∙ ap Some q,
      )

-- no member was found
module _ (xs : List Avp) (k vendor code : ℕ) (none : (i : ℕ) → FirstMember xs k vendor code i → ⊥) where
  not_found : (f : Option ℕ) → member xs k ((avp_in xs k).depth + 1) vendor code ≡ f → f ≡ None
  not_found (Some i) e = absurd (none i ((member_first xs k vendor code i).0 e))
  not_found None e = refl

-- the same search finds none exactly when there is no such member.
-- Carried by member_first.
-- Ruled out: a search that misses the last member.
pub member_none : (xs : List Avp) (k vendor code : ℕ)
    → (member xs k ((avp_in xs k).depth + 1) vendor code ≡ None) ↔ ((i : ℕ) → FirstMember xs k vendor code i → ⊥)
member_none xs k vendor code = (
  λ e i f. not_nothing (sym e ∙ (member_first xs k vendor code i).1 f),
  λ none. not_found xs k vendor code none (member xs k ((avp_in xs k).depth + 1) vendor code) refl,
)
