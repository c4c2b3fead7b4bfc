-- What a listing tells of a book: a line for each command, with its ordinal, offset and verdict, and `end` with the
-- number of commands and of acceptances; or the same lines, then `cut`, and no `end`.
use mathlib.Core.Path.{◌≡◌, refl, sym, ap, ◌∙◌}
use mathlib.Core.Bool.{true}
use mathlib.Core.Logic.{◌⊎◌, inl, inr, ⊎_elim}
use mathlib.Core.List.{List, [], ◌∷◌, ◌++◌, append_assoc, append-nil}
use Prim.Native.Nat.{ℕ, zero, suc, ◌+◌, ◌*◌, ◌≤◌, ◌<◌}
use native.Mathlib.Omega.{arith}
use borrow.Author.Tests.{le-leb, ltb-true, ltb-false, leb-true, eqb-true}
use lib.Dec.{ltb, leb, eqb}
use lib.ListN.{length, take, drop, length-append, length-drop, take-append-drop}
use lib.Seq.{length-take-le}
use Rattle.rules.specs.Octets.{AreOctets, number_at}
use Rattle.rules.specs.Header.{header_size}
use Rattle.rules.specs.Lines.{cut_line, end_line}
use Rattle.rules.specs.Book.{head_line, length_of, book_head, longest_book, is_book, listing, not_a_book, BookCommand, AllBookCommands, CutOff, joined, book_of, Parted, NoBook, command_lines, accepted_of}
use Rattle.rules.proofs.Octets.{number_at_in, number_at_part, number_at_digits}
use Rattle.rules.proofs.Tests.{and_true}
use Rattle.rules.proofs.Walk.{by_cases}
use Rattle.rules.proofs.Steps.{listing_steps}
use Rattle.rules.proofs.BookLines.{behind_is, lines_of, last_line_lem, cut_line_lem}

-- ---- the listing

book_is : (xs : List ℕ) → 5 + length xs ≤ longest_book → is_book (0x4e ∷ 0x54 ∷ 0x42 ∷ 0x00 ∷ 0x01 ∷ xs) ≡ true
unfolding is_book
book_is xs h =
    let s : List ℕ = 0x4e ∷ 0x54 ∷ 0x42 ∷ 0x00 ∷ 0x01 ∷ xs in
    rw (
      le-leb book_head (length s) (omega arith),
      le-leb (length s) longest_book (omega arith),
      number_at_in 3 s 0 (omega arith),
      number_at_in 2 s 3 (omega arith),
    )

module _ (cs : List (List ℕ)) (e : AllBookCommands cs) where
  -- "It prints `NTB 1`; per command ordinal (from 1), offset in the book, number, place, vendor, code; then `end` with
  -- commands and acceptances. It cuts by the length field alone."
  -- Carried by lines_of and last_line_lem.
  -- Ruled out: a made-up count after `end`; a listing that counts a refused command as accepted, or that leaves out a
  -- command which is too long for the reader.
  pub listing_whole : length (book_of cs []) ≤ longest_book
      → listing (book_of cs []) ≡ head_line ++ (command_lines 1 book_head cs ++ end_line (length cs) (accepted_of cs))
  listing_whole h =
      let s = book_of cs [] in
      let nil = ap length (append-nil (joined cs)) in
      listing_steps s (length s) (book_is (joined cs ++ []) (omega arith)) (omega arith)
      ∙ ap (λ (t : List ℕ). head_line ++ t)
      (lines_of s [] cs e (length s) 1 book_head 0 0 (book_head + length (joined cs)) (length cs) (accepted_of cs) refl
      (omega arith) (omega arith) (omega arith) refl (omega arith) (omega arith)
      ∙ ap (λ (t : List ℕ). command_lines 1 book_head cs ++ t)
      (last_line_lem s [] 0 (book_head + length (joined cs)) (length cs) (accepted_of cs) (omega arith)))

  -- "With one to three octets left, a length under 20 or one past the end, it prints ordinal, offset and `cut`, and no
  -- `end`."
  -- Carried by lines_of and cut_line_lem.
  -- Ruled out: `end` after a cut, so that a broken book passes; a cut whose ordinal or offset is that of the command
  -- before.
  pub listing_cut : (left : List ℕ) → CutOff left → length (book_of cs left) ≤ longest_book
      → listing (book_of cs left)
      ≡ head_line ++ (command_lines 1 book_head cs ++ cut_line (length cs + 1) (book_head + length (joined cs)))
  listing_cut left k h =
      let s = book_of cs left in
      let long = length-append (joined cs) left in
      let at' = book_head + length (joined cs) in
      listing_steps s (length s) (book_is (joined cs ++ left) (omega arith)) (omega arith)
      ∙ ap (λ (t : List ℕ). head_line ++ t)
      (lines_of s left cs e (length s) (suc (length s)) book_head 0 0 at' (length cs) (accepted_of cs) refl (omega arith)
      (omega arith) (omega arith) refl (omega arith) (omega arith)
      ∙ ap (λ (t : List ℕ). command_lines 1 book_head cs ++ t)
      (cut_line_lem s left at' (behind_is s book_head (joined cs) left refl (omega arith)) (omega arith) k (length s)
      (length cs) (accepted_of cs)))

-- ---- every book, and every other octets

module _ (xs : List ℕ) (some : 1 ≤ length xs) where
  no_command_left : (length xs < 4) ⊎ ((length_of xs 0 < header_size) ⊎ (length xs < length_of xs 0)) → Parted xs
  no_command_left why =
      record {
        commands = [];
        left = xs;
        entered = tt;
        last = inr (record { some = some; no_command = why });
        all = refl;
      }

  -- a command, and what is behind it
  module _ (enough : header_size ≤ length_of xs 0) (within : length_of xs 0 ≤ length xs) where
    abbrev size : ℕ
    size = length_of xs 0

    size_is : length (take size xs) ≡ size
    size_is = length-take-le size xs within

    first_entered : BookCommand (take size xs)
    first_entered =
        let l = size_is in
        record {
          enough = omega arith;
          field_is = number_at_part 3 xs 0 size 1 (omega arith) (omega arith) ∙ sym size_is;
        }

    first_and : Parted (drop size xs) → Parted xs
    first_and r =
        record {
          commands = take size xs ∷ r.commands;
          left = r.left;
          entered = (first_entered, r.entered);
          last = r.last;
          all =
              sym (take-append-drop size xs)
              ∙ ap (λ (l : List ℕ). take size xs ++ l) r.all
              ∙ sym (append_assoc (take size xs) (joined r.commands) r.left);
        }

none_parted : Parted []
none_parted = record { commands = []; left = []; entered = tt; last = inl refl; all = refl }

parted_nil : (xs : List ℕ) → length xs ≤ 0 → Parted xs
parted_nil [] h = none_parted
parted_nil (x ∷ xs) h = absurd (omega arith)

parted_step : (n : ℕ) → ((ys : List ℕ) → length ys ≤ n → Parted ys) → (xs : List ℕ) → length xs ≤ suc n → Parted xs
parted_step n less [] h = none_parted
parted_step n less (x ∷ xs) h =
    let s : List ℕ = x ∷ xs in
    let some : 1 ≤ length s = omega arith in
    by_cases (ltb (length s) 4) (λ few. no_command_left s some (inl (ltb-true _ _ few)))
    (λ four. by_cases (ltb (length_of s 0) header_size) (λ short. no_command_left s some (inr (inl (ltb-true _ _ short))))
    (λ enough. by_cases (ltb (length s) (length_of s 0)) (λ past. no_command_left s some (inr (inr (ltb-true _ _ past))))
    (λ within.
    let e : header_size ≤ length_of s 0 = ltb-false _ _ enough in
    let l : length (drop (length_of s 0) s) ≤ n = rw (length-drop (length_of s 0) s) (omega arith) in
    first_and s some e (ltb-false _ _ within) (less (drop (length_of s 0) s) l))))

parted_in : (n : ℕ) (xs : List ℕ) → length xs ≤ n → Parted xs
parted_in zero xs h = parted_nil xs h
parted_in (suc n) xs h = parted_step n (parted_in n) xs h

-- The octets behind a head are always commands and nothing, or commands and octets that are no command: one of the two
-- laws above tells the listing of each book.
pub book_parted : (xs : List ℕ) → Parted xs
book_parted xs = parted_in (length xs) xs (omega arith)

-- a head that passes the tests is the one head
head_is : (s : List ℕ) → AreOctets s → book_head ≤ length s → number_at 3 s 0 ≡ 0x4e5442 → number_at 2 s 3 ≡ 1
    → take book_head s ≡ 0x4e ∷ 0x54 ∷ 0x42 ∷ 0x00 ∷ 0x01 ∷ []
head_is [] oct h l v = absurd (omega arith)
head_is (a ∷ []) oct h l v = absurd (omega arith)
head_is (a ∷ b ∷ []) oct h l v = absurd (omega arith)
head_is (a ∷ b ∷ c ∷ []) oct h l v = absurd (omega arith)
head_is (a ∷ b ∷ c ∷ d ∷ []) oct h l v = absurd (omega arith)
head_is (a ∷ b ∷ c ∷ d ∷ e ∷ xs) oct h l v =
    let s : List ℕ = a ∷ b ∷ c ∷ d ∷ e ∷ xs in
    let p : (a * 256 + b) * 256 + c ≡ 0x4e5442 = sym (number_at_digits 3 s 0 (omega arith)) ∙ l in
    let q : d * 256 + e ≡ 1 = sym (number_at_digits 2 s 3 (omega arith)) ∙ v in
    let b-small : b < 256 = oct 1 in
    let c-small : c < 256 = oct 2 in
    let e-small : e < 256 = oct 4 in
    let a-is : a ≡ 0x4e = omega arith in
    let b-is : b ≡ 0x54 = omega arith in
    let c-is : c ≡ 0x42 = omega arith in
    let d-is : d ≡ 0x00 = omega arith in
    let e-is : e ≡ 0x01 = omega arith in
    rw (a-is, b-is, c-is, d-is, e-is)

passes_not : (s : List ℕ) → AreOctets s → NoBook s → is_book s ≡ true → ⊥
unfolding is_book
passes_not s oct none passes =
    let x = and_true _ (eqb (number_at 2 s 3) 1) passes in
    let y = and_true _ (eqb (number_at 3 s 0) 0x4e5442) x.0 in
    let z = and_true (leb book_head (length s)) (leb (length s) longest_book) y.0 in
    let long : book_head ≤ length s = leb-true _ _ z.0 in
    let within : length s ≤ longest_book = leb-true _ _ z.1 in
    ⊎_elim (λ short. absurd (omega arith))
    (⊎_elim (λ longer. absurd (omega arith))
    (λ wrong. wrong (head_is s oct long (eqb-true _ _ y.1) (eqb-true _ _ x.1))))
    none

-- "A wrong or short head or a longer book prints `not a book` only."
-- Carried by head_is.
-- Ruled out: a head of version 2 that is read as one of version 1; a book of more than 65,536 octets that is listed in
-- part.
pub listing_no_book : (s : List ℕ) → AreOctets s → NoBook s → listing s ≡ not_a_book
unfolding listing
listing_no_book s oct none =
    by_cases (is_book s) (λ passes. absurd (passes_not s oct none passes)) (λ e. rw e)
