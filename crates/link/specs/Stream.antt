-- The listing of a whole stream (docs/rules.md, Listing of a stream), and what is claimed of the pieces in which it is
-- listed.
use Rattle.std.specs.Prelude.{ℕ, ◌+◌, cond, List, [], ◌∷◌, ◌++◌, length, ◌==◌}
use Rattle.rules.specs.Header.{length_field}
use Rattle.rules.specs.Lines.{cut_line, end_line, stopped_line}
use Rattle.rules.specs.Book.{joined, command_lines, accepted_of}
use Rattle.fragments.specs.Run.{stop_verdict, commands_of, behind_of, stops}
use Rattle.link.specs.declared.Tally.{Tally}
use Rattle.link.specs.Listing.{list_piece, last_line}

-- what `link` prints for a stream that comes in pieces, to its end or until it stops
unfoldable pub list_pieces : Tally → List ℕ → List (List ℕ) → List ℕ
list_pieces t buffer [] = last_line t
list_pieces t buffer (piece ∷ pieces) =
    let l = list_piece t buffer piece in
    l.text
    ++ cond (l.tally.state.stopped == 0) (list_pieces l.tally l.buffer pieces) []

-- what it has printed for these pieces before it knows whether the input has ended
unfoldable pub text_of : Tally → List ℕ → List (List ℕ) → List ℕ
text_of t buffer [] = []
text_of t buffer (piece ∷ pieces) =
    let l = list_piece t buffer piece in
    l.text ++ cond (l.tally.state.stopped == 0) (text_of l.tally l.buffer pieces) []

-- the last line of a stream: behind its commands it stops, ends or is cut
unfoldable pub ending_of : List ℕ → List ℕ
ending_of stream =
    let commands = commands_of stream in
    let rest = behind_of stream in
    cond (stops rest) (stopped_line (length commands + 1) (length (joined commands)) (stop_verdict (length_field rest)))
    (cond (length rest == 0) (end_line (length commands) (accepted_of commands))
    (cut_line (length commands + 1) (length (joined commands))))

-- the last line of a stream that stops; of every other one, no line yet
unfoldable pub stop_of : List ℕ → List ℕ
stop_of stream =
    let commands = commands_of stream in
    let rest = behind_of stream in
    cond (stops rest) (stopped_line (length commands + 1) (length (joined commands)) (stop_verdict (length_field rest)))
    []

-- the listing of a stream: a line for each command, cut by the length fields alone, and the last line
unfoldable pub stream_listing : List ℕ → List ℕ
stream_listing stream = command_lines 1 0 (commands_of stream) ++ ending_of stream
