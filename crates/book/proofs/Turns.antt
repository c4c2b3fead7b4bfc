-- Laws of the turns of a listing: what is left to put before each command, and that the lent octets are always enough.
use mathlib.Core.Path.{◌≡◌, ap, ◌∙◌}
use mathlib.Core.Bool.{Bool, true, false, cond}
use mathlib.Core.List.{List, ◌++◌}
use Prim.Native.Nat.{ℕ, zero, suc, ◌+◌, ◌-◌, ◌*◌, ◌≤◌, ◌<◌}
use native.Mathlib.Omega.{arith}
use borrow.Author.Tests.{lt-leb, le-leb}
use lib.ListN.{length}
use lib.Dec.{eqb}
use Rattle.rules.specs.declared.Verdict.{Verdict}
use Rattle.rules.specs.Command.{command_verdict}
use Rattle.rules.specs.Lines.{command_line, cut_line, end_line}
use Rattle.rules.specs.Book.{length_of, is_cut, is_book, command_in, acceptance, head_line, not_a_book, lines_from, listing, book_head}
use Rattle.lines.specs.Promise.{Put, PutWithin}
use Rattle.lines.proofs.Text.{joined}
use Rattle.book.specs.Promise.{ListingPut, HeadPut, Whole, lines_of, room}
use Rattle.book.proofs.Cuts.{book_head_lem, book_size}

-- ---- the lines from an offset on, with a bound that is enough

module _ (s : List ℕ) (at commands accepted : ℕ) where
  lines_end : (n : ℕ) → length s - at < n → length s ≤ at → lines_from n s at commands accepted ≡ end_line commands accepted
  unfolding lines_from
  lines_end zero h k = absurd (omega arith)
  lines_end (suc n) h k = rw (le-leb (length s) at k)

  lines_cut : (n : ℕ) → length s - at < n → at < length s → is_cut s at ≡ true
      → lines_from n s at commands accepted ≡ cut_line (commands + 1) at
  unfolding lines_from
  lines_cut zero h k e = absurd (omega arith)
  lines_cut (suc n) h k e = rw (lt-leb (length s) at k, e)

  lines_command : (n : ℕ) → length s - at < n → at < length s → is_cut s at ≡ false
      → lines_from n s at commands accepted
      ≡ command_line (commands + 1) at (command_verdict (command_in s at))
      ++ lines_from (n - 1) s (at + length_of s at) (commands + 1) (accepted + acceptance (command_verdict (command_in s at)))
  unfolding lines_from
  lines_command zero h k e = absurd (omega arith)
  lines_command (suc n) h k e =
      let less : suc n - 1 ≡ n = omega arith in
      rw (lt-leb (length s) at k, e, less)

one_or_none : (t : Bool) → cond t 1 0 ≤ 1
one_or_none true = omega arith
one_or_none false = omega arith

pub acceptance_small : (v : Verdict) → acceptance v ≤ 1
acceptance_small v = one_or_none (eqb v.number 0)

-- ---- before each command

-- `at` in the octets and `offset` in the book, after this many commands and acceptances: what is put from here on as
-- the lines that are left makes the listing whole. A line is shorter than three and a half times its command.
pub record LinesLeft (book before : List ℕ) (start : ℕ) (out : List ℕ) (at offset commands accepted : ℕ) : Type 0 where
  pub inside : offset ≤ length book
  pub fits : 2 * at ≤ 7 * offset
  pub few : commands ≤ offset
  pub passed : accepted ≤ commands
  pub bound : ℕ
  pub enough : length book - offset < bound
  pub rest : (r : ℕ) (after : List ℕ) → Put out at (lines_from bound book offset commands accepted) r after
      → Put before start (lines_of book) r after

module _ {book before : List ℕ} {start : ℕ} where
  pub first_turn : HeadPut book start → LinesLeft book before start before start book_head 0 0
  first_turn h = record {
    inside = h.head;
    fits = omega arith;
    few = omega arith;
    passed = omega arith;
    bound = length book;
    enough = omega arith;
    rest = λ r after p. p;
  }

  module _ {out : List ℕ} {at offset commands accepted : ℕ} (t : LinesLeft book before start out at offset commands accepted) where
    pub turn_end : length book ≤ offset → {r : ℕ} {after : List ℕ} → Put out at (end_line commands accepted) r after
        → Put before start (lines_of book) r after
    turn_end h {r} {after} p = t.rest r after (rw (lines_end book offset commands accepted t.bound t.enough h) p)

    module _ (more : offset < length book) where
      pub turn_cut : is_cut book offset ≡ true → {r : ℕ} {after : List ℕ} → Put out at (cut_line (commands + 1) offset) r after
          → Put before start (lines_of book) r after
      turn_cut e {r} {after} p = t.rest r after (rw (lines_cut book offset commands accepted t.bound t.enough more e) p)

      pub next_turn : {command : List ℕ} → Whole book offset command → {v : Verdict} → v ≡ command_verdict command
          → length (command_line (commands + 1) offset v) ≤ 66
          → {r : ℕ} {after : List ℕ} → Put out at (command_line (commands + 1) offset v) r after
          → {count : ℕ} → count ≡ acceptance v
          → LinesLeft book before start after r (offset + length command) (commands + 1) (accepted + count)
      next_turn {command} w {v} same short {r} {after} p {count} counted =
          let one : acceptance v ≤ 1 = acceptance_small v in
          let here : v ≡ command_verdict (command_in book offset) = same ∙ ap command_verdict w.is in
          record {
            inside = w.inside;
            fits = omega (arith, p.next, short, w.header);
            few = omega (arith, w.header);
            passed = omega arith;
            bound = t.bound - 1;
            enough = omega (arith, t.enough, w.header);
            rest = λ r' after' q.
                t.rest r' after'
                (rw (lines_command book offset commands accepted t.bound t.enough more w.uncut, ← here, ← w.long, ← counted)
                (joined p q));
          }

-- ---- the whole listing

-- where the lines start
pub head_put : {book : List ℕ} {r : ℕ} → is_book book ≡ true → r ≤ 6 → HeadPut book r
head_put {book} e h = record { head = book_head_lem book e; short = book_size book e; place = h }

module _ (book before : List ℕ) {r : ℕ} {after : List ℕ} where
  pub listed_none : is_book book ≡ false → Put before 0 not_a_book r after → ListingPut book before r after
  unfolding listing
  listed_none e p = record { count = rw e (omega (arith, p.next)); octets = rw e p.octets; within = omega (arith, p.next) }

  pub listed : is_book book ≡ true → {middle : ℕ} {between : List ℕ} → Put before 0 head_line middle between
      → PutWithin (room - 6) between middle (lines_of book) r after → ListingPut book before r after
  unfolding listing
  listed e p q =
      let whole = joined p q.put in
      record { count = rw e (whole.next ∙ omega arith); octets = rw e whole.octets; within = omega (arith, p.next) }
