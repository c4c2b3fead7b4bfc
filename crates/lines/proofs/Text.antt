-- Laws of text: pieces that are put one behind the other, and a line put whole or not at all.
use mathlib.Core.Path.{◌≡◌, refl, sym, ap, ◌∙◌}
use mathlib.Core.Bool.{Bool, true, false}
use mathlib.Core.List.{List, [], ◌∷◌, ◌++◌, append_assoc}
use Prim.Native.Nat.{ℕ, suc, ◌+◌, ◌-◌, ◌≤◌, ◌<◌}
use native.Mathlib.Nat.{add-zero}
use native.Mathlib.Omega.{arith}
use borrow.Author.Tests.{le-leb, lt-leb, leb-true, leb-false}
use lib.Dec.{leb}
use borrow.Rule.Slice.PartMut.{put_mid}
use lib.ListN.{length, set, length-append}
use lib.Seq.{sets, length-sets}
use Rattle.std.proofs.Common.{rules, drop-drop}
use Rattle.std.proofs.lemmas.List.Edits.{sets-eq}
use Rattle.rules.proofs.Walk.{by_cases}
use Rattle.lines.specs.Promise.{LinePut, Put, PutWithin, line_room, has_room}

sets-append : (l : List ℕ) (i : ℕ) (xs ys : List ℕ) → sets (sets l i xs) (i + length xs) ys ≡ sets l i (xs ++ ys)
sets-append l i [] ys = rw add-zero
sets-append l i (x ∷ xs) ys =
    let e : i + suc (length xs) ≡ suc i + length xs = omega arith in
    let h = sets-append (set l i x) (suc i) xs ys in
    rw e h

module _ {before : List ℕ} {at : ℕ} {xs : List ℕ} {middle : ℕ} {between : List ℕ} where
  -- a piece behind a piece
  pub joined : {ys : List ℕ} {r : ℕ} {after : List ℕ}
      → Put before at xs middle between → Put between middle ys r after → Put before at (xs ++ ys) r after
  joined {ys} p q = record {
    next = omega (arith, length-append xs ys, p.next, q.next);
    octets = q.octets ∙ rw (p.octets, p.next) (sets-append before at xs ys);
  }

-- the lent octets stay as many
pub put-length : {before : List ℕ} {at : ℕ} {text : List ℕ} {r : ℕ} {after : List ℕ} → Put before at text r after
    → length after ≡ length before
put-length {before} {at} {text} p = ap length p.octets ∙ length-sets before at text

pub put_nothing : (out : List ℕ) (at : ℕ) → Put out at [] (at + 0) out
put_nothing out at = record { next = refl; octets = refl }

-- ---- a line

-- the test of the room, which no addition overflows
pub room_none : (n at : ℕ) → n < line_room → false ≡ leb (at + line_room) n
room_none n at h = sym (lt-leb (at + line_room) n (omega arith))

pub room_left : (n at : ℕ) → line_room ≤ n → leb at (n - line_room) ≡ leb (at + line_room) n
room_left n at h =
    let m = n - line_room in
    by_cases (leb at m) (λ e. e ∙ sym (le-leb (at + line_room) n (omega (arith, leb-true at m e))))
    (λ e. e ∙ sym (lt-leb (at + line_room) n (omega (arith, leb-false at m e))))

-- what the test says where it is met
pub room_met : (at n : ℕ) {t : Bool} → t ≡ leb (at + line_room) n → t ≡ true → at + line_room ≤ n
room_met at n e f = leb-true _ _ (sym e ∙ f)

module _ {before : List ℕ} {at : ℕ} {line : List ℕ} where
  pub no_line : length before - at < line_room → LinePut before at line at before
  unfolding has_room
  no_line h =
      let e = lt-leb (at + line_room) (length before) (omega arith) in
      record { next = rw e; octets = rw e; within = omega arith }

  pub line_put : line_room ≤ length before - at → length line ≤ line_room → {r n : ℕ} {part : List ℕ}
      → r ≡ at + length line → n ≡ length line → part ≡ line → LinePut before at line r (put_mid at n before part)
  unfolding has_room
  line_put h k {r} {n} {part} e f g =
      let room = le-leb (at + line_room) (length before) (omega arith) in
      record {
        next = rw room e;
        octets = rw (room, f, g, sets-eq line before at (omega arith), drop-drop (length line) at before) (search (rules, append_assoc));
        within = omega arith;
      }

  -- what a caller that sees to the room takes from a promise
  pub line_fits : at + line_room ≤ length before → {r : ℕ} {after : List ℕ} → LinePut before at line r after
      → PutWithin line_room before at line r after
  unfolding has_room
  line_fits h p =
      let e = le-leb (at + line_room) (length before) h in
      record { put = record { next = rw e at p.next; octets = rw e at p.octets }; within = p.within }
