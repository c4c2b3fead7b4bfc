-- What the functions of the listing promise. Those that put a part of it make the promises of `lines` for a piece of
-- text.
use Rattle.std.specs.Prelude.{◌≡◌, false, List, ℕ, ◌+◌, ◌≤◌, length}
use Rattle.std.proofs.lemmas.List.Edits.{sets}
use Rattle.rules.specs.Book.{length_of, is_cut, command_in, listing, lines_from, book_head, longest_book}

-- the octets that the caller lends; no listing is longer
abbrev pub room : ℕ
room = 262144

-- the listing of a book: how many octets it has, and these octets from the start on, the rest untouched
pub record ListingPut (book before : List ℕ) (r : ℕ) (after : List ℕ) : Type 0 where
  pub count : r ≡ length (listing book)
  pub octets : after ≡ sets before 0 (listing book)
  pub within : r ≤ room

-- the lines behind the head line
abbrev pub lines_of : List ℕ → List ℕ
lines_of book = lines_from (length book) book book_head 0 0

-- a book's length, and the place behind the head line
pub record HeadPut (book : List ℕ) (at : ℕ) : Type 0 where
  pub head : book_head ≤ length book
  pub short : length book ≤ longest_book
  pub place : at ≤ 6

-- a command that is not cut lies whole in the book
pub record Whole (book : List ℕ) (at : ℕ) (command : List ℕ) : Type 0 where
  pub uncut : is_cut book at ≡ false
  pub is : command ≡ command_in book at
  pub long : length command ≡ length_of book at
  pub header : 20 ≤ length command
  pub inside : at + length command ≤ length book
