-- Request [7]'s listing of a stream as a theorem: however it comes in pieces, it is listed as if uncut.
use Rattle.std.proofs.Common.{◌≡◌, ℕ, ◌^◌, ◌<◌, ◌≤◌, true, false, List, [], ◌∷◌, ◌++◌, length, ◌∙◌, arith}
use Rattle.rules.specs.Header.{longest_command}
use Rattle.rules.specs.Book.{joined, command_lines}
use Rattle.fragments.specs.Run.{commands_of}
use Rattle.fragments.proofs.Usable.{fresh_usable}
use Rattle.link.specs.declared.Tally.{Tally}
use Rattle.link.specs.Listing.{none_yet}
use Rattle.link.specs.Stream.{list_pieces, text_of, stop_of, stream_listing}
use Rattle.link.proofs.Lines.{lines_whole, lines_so_far}
use Rattle.link.proofs.Middle.{Going, lines_left, last_left, none_left}
use Rattle.link.proofs.Turns.{piece_then}

-- from the middle on: what is printed is what was left to print
pieces_left : (pieces : List (List ℕ)) (t : Tally) (buffer : List ℕ) → Going t buffer (length (joined pieces))
    → list_pieces t buffer pieces ≡ lines_left true t buffer (joined pieces)
unfolding list_pieces
pieces_left [] t buffer going = last_left t buffer going
pieces_left (piece ∷ pieces) t buffer going =
    piece_then true (λ t b. list_pieces t b pieces) (joined pieces) (pieces_left pieces) (length piece) t buffer piece
    (omega arith) going

text_left : (pieces : List (List ℕ)) (t : Tally) (buffer : List ℕ) → Going t buffer (length (joined pieces))
    → text_of t buffer pieces ≡ lines_left false t buffer (joined pieces)
unfolding text_of
text_left [] t buffer going = none_left t buffer going
text_left (piece ∷ pieces) t buffer going =
    piece_then false (λ t b. text_of t b pieces) (joined pieces) (text_left pieces) (length piece) t buffer piece
    (omega arith) going

module _ (buffer : List ℕ) (pieces : List (List ℕ)) (room : longest_command ≤ length buffer)
    (short : length (joined pieces) < 2 ^ 64)
  where
    none_yet_lem : Going none_yet buffer (length (joined pieces))
    none_yet_lem =
        record {
          room = room;
          usable = fresh_usable buffer;
          few = omega arith;
          fewer = omega arith;
          within = omega arith;
        }

    -- "A line a command as soon as it is whole, in the listing's form (ordinal, offset, number, place, Vendor-Id,
    -- code), then `end` with commands and acceptances at the end of input, `cut` for an unfinished rest, and a last
    -- line `stopped` with number and place after a refusal at the fourth octet."
    -- Carried by piece_then for the lines of a piece, by lines_first for ordinals and offsets, and by last_left for the
    -- last line. Offsets begin anew from 2^64 octets on.
    -- Ruled out: a listing whose offsets count from a piece's start; `end` for a stream that stopped or was cut.
    pub pieces_list_the_stream : list_pieces none_yet buffer pieces ≡ stream_listing (joined pieces)
    pieces_list_the_stream = pieces_left pieces none_yet buffer none_yet_lem ∙ lines_whole (joined pieces)

    -- "As soon as it is whole": the pieces that have come are listed, whatever comes later.
    -- Carried by piece_then.
    -- Ruled out: a line that waits for the next piece or the end of input; `stopped` only at the end of input.
    pub whole_is_listed : text_of none_yet buffer pieces
        ≡ command_lines 1 0 (commands_of (joined pieces)) ++ stop_of (joined pieces)
    whole_is_listed = text_left pieces none_yet buffer none_yet_lem ∙ lines_so_far (joined pieces)
