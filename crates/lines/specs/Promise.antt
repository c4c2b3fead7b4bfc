-- What the functions of lines promise. A line is text that is put piece by piece into octets that the caller lends, so
-- every function that puts text makes the same promise of its piece.
use Rattle.std.specs.Prelude.{◌≡◌, Bool, cond, List, ℕ, ◌+◌, ◌≤◌, leb, length}
use Rattle.std.proofs.lemmas.List.Edits.{sets}

-- every line fits, also with numbers of 64 bits
abbrev pub line_room : ℕ
line_room = 96

unfoldable pub has_room : List ℕ → ℕ → Bool
has_room out at = leb (at + line_room) (length out)

-- a line put from a place on, where there is room for every line: the place behind it, and its octets, the rest
-- untouched; else nothing
pub record LinePut (before : List ℕ) (at : ℕ) (line : List ℕ) (r : ℕ) (after : List ℕ) : Type 0 where
  pub next : r ≡ cond (has_room before at) (at + length line) at
  pub octets : after ≡ cond (has_room before at) (sets before at line) before
  pub within : r ≤ at + line_room

-- text put from a place on: the place behind it, and its octets, the rest untouched
pub record Put (before : List ℕ) (at : ℕ) (text : List ℕ) (r : ℕ) (after : List ℕ) : Type 0 where
  pub next : r ≡ at + length text
  pub octets : after ≡ sets before at text

-- the same, with a bound on the text for the next piece
pub record PutWithin (most : ℕ) (before : List ℕ) (at : ℕ) (text : List ℕ) (r : ℕ) (after : List ℕ) : Type 0 where
  pub put : Put before at text r after
  pub within : r ≤ at + most
