-- Laws of a book's head and of its cuts: what the tests that code makes say of them.
use mathlib.Core.Path.{◌≡◌}
use mathlib.Core.Bool.{true, ◌&&◌}
use mathlib.Core.Logic.{◌⊎◌, inl, inr}
use mathlib.Core.List.{List}
use Prim.Native.Nat.{ℕ, ◌+◌, ◌-◌, ◌≤◌, ◌<◌}
use native.Mathlib.Numerals.{unary_clauses}
use native.Mathlib.Omega.{arith}
use borrow.Author.Tests.{lt-ltb, le-ltb, leb-true, leb-false}
use lib.ListN.{length, take, drop}
use lib.Dec.{ltb, leb, eqb}
use Rattle.std.proofs.Common.{Option, None, Some, Bor, MatchOption, length-take-le, length-drop, take_all}
use Rattle.std.specs.Slice.{IsGetRangeResult}
use Rattle.rules.specs.Octets.{number_at}
use Rattle.rules.specs.Book.{length_of, is_cut, is_book, command_in}
use Rattle.rules.proofs.Octets.{number_at_out}
use Rattle.rules.proofs.Tests.{and_true}
use Rattle.rules.proofs.Walk.{by_cases}
use Rattle.book.specs.Promise.{Whole}

module _ (s : List ℕ) (at : ℕ) where
  pub cut_short : length_of s at < 20 → is_cut s at ≡ true
  unfolding is_cut
  cut_short h = by_cases (ltb (length s - at) 4) (λ e. rw e) (λ e. rw (e, lt-ltb (length_of s at) 20 h))

  -- a length of 20 and more lies whole in the book
  module _ (h : 20 ≤ length_of s at) where
    field_inside : 4 ≤ length s - at
    field_inside =
        by_cases (leb (at + 1 + 3) (length s)) (λ e. let i = leb-true _ _ e in omega arith)
        (λ e. let o = number_at_out 3 s (at + 1) (leb-false _ _ e) in absurd (omega arith))

    pub cut_past : length s - at < length_of s at → is_cut s at ≡ true
    unfolding is_cut
    cut_past k = rw (le-ltb (length s - at) 4 field_inside, le-ltb (length_of s at) 20 h, lt-ltb _ _ k)

    pub whole : length_of s at ≤ length s - at → (c : List ℕ) → c ≡ command_in s at → Whole s at c
    unfolding is_cut
    whole k c e =
        let l = length-drop at s in
        let long : length c ≡ length_of s at = rw e (length-take-le (length_of s at) (drop at s) (omega arith)) in
        let f = field_inside in
        record {
          uncut = rw (le-ltb (length s - at) 4 f, le-ltb (length_of s at) 20 h, le-ltb _ _ k);
          is = e;
          long = long;
          header = omega arith;
          inside = omega arith;
        }

past : (m n : ℕ) → (n < 0) ⊎ (m < n) → m < n
past m n (inl h) = absurd (omega arith)
past m n (inr h) = h

-- the part of a book from an offset on, up to a length
pub part_whole : (s : List ℕ) (at n : ℕ) (r : Option (Bor (List ℕ))) → n ≡ length_of s at → 20 ≤ n
    → IsGetRangeResult (take (length s - at) (drop at s)) 0 n r
    → MatchOption r (is_cut s at ≡ true) (λ c. Whole s at c.now)
part_whole s at n None e h p =
    let l = length-drop at s in
    let a = take_all (length s - at) (drop at s) (omega arith) in
    cut_past s at (rw e at h) (rw (e, a, l) at (past _ _ p.0))
part_whole s at n (Some c) e h p =
    let l = length-drop at s in
    let a = take_all (length s - at) (drop at s) (omega arith) in
    whole s at (rw e at h) (rw (e, a, l) at p.0.1) c.now (rw (e, a) at simp unary_clauses at p.0.2)

module _ (s : List ℕ) (e : is_book s ≡ true) where
  lengths : (leb 5 (length s) ≡ true) × (leb (length s) 65536 ≡ true)
  unfolding is_book
  lengths =
      let both = leb 5 (length s) && leb (length s) 65536 in
      let letters = eqb (number_at 3 s 0) 0x4e5442 in
      let head = and_true (both && letters) (eqb (number_at 2 s 3) 1) e in
      and_true (leb 5 (length s)) (leb (length s) 65536) (and_true both letters head.0).0

  pub book_head_lem : 5 ≤ length s
  book_head_lem = leb-true 5 (length s) lengths.0

  pub book_size : length s ≤ 65536
  book_size = leb-true (length s) 65536 lengths.1
