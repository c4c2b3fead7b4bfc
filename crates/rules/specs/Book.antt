-- 01, The book and its listing: the listing is the octets that `verdicts` prints. Its lines for commands, for a cut and
-- for the end are in Lines.
use Rattle.std.specs.Prelude.{◌≡◌, ◌⊎◌, ℕ, zero, suc, ◌+◌, ◌-◌, ◌≤◌, ◌<◌, List, [], ◌∷◌, ◌++◌, Bool, cond, ◌&&◌, ◌||◌, length, take, drop, ltb, leb, eqb}
use Rattle.rules.specs.declared.Verdict.{Verdict}
use Rattle.rules.specs.Octets.{number_at}
use Rattle.rules.specs.Text.{text}
use Rattle.rules.specs.Verdict.{is_accepted}
use Rattle.rules.specs.Header.{header_size}
use Rattle.rules.specs.Command.{command_verdict}
use Rattle.rules.specs.Lines.{command_line, cut_line, end_line}

-- the first line
abbrev pub head_line : List ℕ
head_line = text "NTB 1\n"

-- the only line of what is no book
abbrev pub not_a_book : List ℕ
not_a_book = text "not a book\n"

-- the length field of the command at an offset
abbrev pub length_of : List ℕ → ℕ → ℕ
length_of s at = number_at 3 s (at + 1)

-- one to three octets left, a length under 20, or one past the end
unfoldable pub is_cut : List ℕ → ℕ → Bool
is_cut s at = ltb (length s - at) 4 || ltb (length_of s at) header_size || ltb (length s - at) (length_of s at)

-- the command at an offset, cut by the length field alone
abbrev pub command_in : List ℕ → ℕ → List ℕ
command_in s at = take (length_of s at) (drop at s)

-- 1 where a command is accepted
abbrev pub acceptance : Verdict → ℕ
acceptance v = cond (is_accepted v) 1 0

-- the lines from an offset on, after this many commands and acceptances. The first argument bounds the lines; one more
-- than there are octets left is enough (proofs/Steps)
unfoldable pub lines_from : ℕ → List ℕ → ℕ → ℕ → ℕ → List ℕ
lines_from zero s at commands accepted = []
lines_from (suc n) s at commands accepted =
    cond (leb (length s) at) (end_line commands accepted)
    (cond (is_cut s at) (cut_line (commands + 1) at)
    (command_line (commands + 1) at (command_verdict (command_in s at))
    ++ lines_from n s (at + length_of s at) (commands + 1) (accepted + acceptance (command_verdict (command_in s at)))))

-- the octets of the letters NTB and of a 16-bit version
abbrev pub book_head : ℕ
book_head = 5

-- a book has at most 65,536 octets
abbrev pub longest_book : ℕ
longest_book = 65536

-- the letters NTB, version 1, and no more than 65,536 octets
unfoldable pub is_book : List ℕ → Bool
is_book s =
    leb book_head (length s) && leb (length s) longest_book && eqb (number_at 3 s 0) 0x4e5442 && eqb (number_at 2 s 3) 1

-- the whole listing. One without `end` is no pass
unfoldable pub listing : List ℕ → List ℕ
listing s = cond (is_book s) (head_line ++ lines_from (length s) s book_head 0 0) not_a_book

-- ---- what is claimed of a listing (proofs/demands/Listings)

-- a command as a book holds it: at least 20 octets, and as long as its length field says
pub record BookCommand (c : List ℕ) : Type 0 where
  pub enough : header_size ≤ length c
  pub field_is : length_of c 0 ≡ length c

abbrev pub AllBookCommands : List (List ℕ) → Type 0
AllBookCommands [] = Unit {0}
AllBookCommands (c ∷ cs) = BookCommand c × AllBookCommands cs

-- octets that are no command: one to three, a length under 20, or one past the end
pub record CutOff (left : List ℕ) : Type 0 where
  pub some : 1 ≤ length left
  pub no_command : (length left < 4) ⊎ ((length_of left 0 < header_size) ⊎ (length left < length_of left 0))

-- commands end to end
abbrev pub joined : List (List ℕ) → List ℕ
joined [] = []
joined (c ∷ cs) = c ++ joined cs

-- the letters NTB, the version 1, commands, and what is left behind them
abbrev pub book_of : List (List ℕ) → List ℕ → List ℕ
book_of cs left = 0x4e ∷ 0x54 ∷ 0x42 ∷ 0x00 ∷ 0x01 ∷ joined cs ++ left

-- octets behind a head as commands and what is left: nothing, or octets that are no command
pub record Parted (xs : List ℕ) : Type 0 where
  pub commands : List (List ℕ)
  pub left : List ℕ
  pub entered : AllBookCommands commands
  pub last : (left ≡ []) ⊎ CutOff left
  pub all : xs ≡ joined commands ++ left

-- no book: a head that is short or wrong, or more than 65,536 octets
abbrev pub NoBook : List ℕ → Type 0
NoBook s =
    (length s < book_head)
    ⊎ ((longest_book < length s) ⊎ (take book_head s ≡ 0x4e ∷ 0x54 ∷ 0x42 ∷ 0x00 ∷ 0x01 ∷ [] → ⊥))

-- a line for each command, with its ordinal, offset and verdict
abbrev pub command_lines : ℕ → ℕ → List (List ℕ) → List ℕ
command_lines ordinal offset [] = []
command_lines ordinal offset (c ∷ cs) =
    command_line ordinal offset (command_verdict c) ++ command_lines (ordinal + 1) (offset + length c) cs

-- how many of them are accepted, counted apart from the listing's own `acceptance`
abbrev pub accepted_of : List (List ℕ) → ℕ
accepted_of [] = 0
accepted_of (c ∷ cs) = cond (is_accepted (command_verdict c)) 1 0 + accepted_of cs
