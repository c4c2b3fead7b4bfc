-- What the functions of `link` promise. No contract can say which octets were read, or that written octets arrive.
use Rattle.std.specs.Prelude.{◌≡◌, ℕ, ◌≤◌, min, Bool, true, not, ◌||◌, List, [], length, take, Result, Ok, Err, ◌==◌}
use Rattle.std.specs.Bool.{MatchBool}
use Rattle.std.specs.declared.io.Error.{Error}
use Rattle.fragments.specs.Link.{buffer_after}
use Rattle.lines.specs.Promise.{Put, PutWithin, line_room}
use Rattle.link.specs.declared.Tally.{Tally}
use Rattle.link.specs.declared.Link.{Link}
use Rattle.link.specs.Listing.{answer_to, line_by, tally_after, list_piece, last_line}

-- the octets of a piece that is read, and the room in which its lines fit
abbrev pub piece_room : ℕ
piece_room = 4096

abbrev pub text_room : ℕ
text_room = 393216

-- what a read into this room answered: how many octets, no more than the room has, or an error
unfoldable pub input_by : Result ℕ Error → ℕ → Result ℕ Error
input_by (Ok n) room = Ok (min n room)
input_by (Err e) room = Err e

-- octets that lie in this room
abbrev pub InRoom : ℕ → Result ℕ Error → Type 0
InRoom room (Ok count) = count ≤ room
InRoom room (Err e) = Unit

pub record InPiece (room : ℕ) (input : Result ℕ Error) : Type 0 where
  pub inside : InRoom room input
  pub short : room ≤ piece_room

-- octets handed to the reader once
pub record LineListed (l : Link) (octets : List ℕ) (count : ℕ) (l' : Link) : Type 0 where
  pub tally : l'.tally ≡ tally_after l.tally l.buffer octets
  pub taken : count ≡ (answer_to l.tally l.buffer octets).taken
  pub within : count ≤ length octets
  pub put : PutWithin line_room l.text l.end (line_by l.tally (answer_to l.tally l.buffer octets).progress) l'.end l'.text
  pub held : l'.buffer ≡ buffer_after l.tally.state octets l.buffer

-- a piece of the stream: its text, and the tally and the buffer afterwards
pub record PieceListed (l : Link) (piece : List ℕ) (l' : Link) : Type 0 where
  pub tally : l'.tally ≡ (list_piece l.tally l.buffer piece).tally
  pub held : l'.buffer ≡ (list_piece l.tally l.buffer piece).buffer
  pub put : Put l.text 0 (list_piece l.tally l.buffer piece).text l'.end l'.text
  pub within : l'.end ≤ text_room

-- the text at the end of the input, or after a read that failed; tally and buffer stay
pub record LastPut (text : List ℕ) (l l' : Link) : Type 0 where
  pub tally : l'.tally ≡ l.tally
  pub held : l'.buffer ≡ l.buffer
  pub put : Put l.text 0 text l'.end l'.text
  pub within : l'.end ≤ text_room

-- what is put for what a read gave: the last line where it gave no octet, since the input has ended then, the lines of
-- the octets, or nothing where it failed
abbrev pub PrintedBy : Result ℕ Error → Link → List ℕ → Link → Type 0
PrintedBy (Ok count) l piece l' =
    MatchBool (count == 0) (LastPut (last_line l.tally) l l') (PieceListed l (take count piece) l')
PrintedBy (Err e) l piece l' = LastPut [] l l'

pub record Printed (input : Result ℕ Error) (l : Link) (piece : List ℕ) (l' : Link) : Type 0 where
  pub put : PrintedBy input l piece l'
  pub within : l'.end ≤ text_room
  pub long : length l'.text ≡ length l.text

-- whether nothing more is printed: at the end of the input, once the run has stopped, or after a read or a write that
-- failed
abbrev pub is_last_after : Result ℕ Error → Tally → Bool
is_last_after (Ok count) t = count == 0 || not (t.state.stopped == 0)
is_last_after (Err e) t = true

unfoldable pub is_last : Result ℕ Error → Bool → Tally → Bool
is_last input written t = not written || is_last_after input t
