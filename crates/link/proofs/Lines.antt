-- The lines of a stream uncut, from its middle on: the line of its first command and the lines of the stream behind it,
-- or its last line.
use Rattle.std.proofs.Common.{◌≡◌, ℕ, ◌+◌, ◌<◌, ◌≤◌, Bool, true, false, cond, eqb, List, [], ◌++◌, length, take, drop, ap, ◌∙◌, append_assoc, add-zero, zero-add, arith, length-take-le, eq-eqb, ne_eqb}
use Rattle.rules.specs.Header.{length_field}
use Rattle.rules.specs.Command.{command_verdict}
use Rattle.rules.specs.Lines.{command_line, cut_line, end_line, stopped_line}
use Rattle.rules.specs.Book.{acceptance, joined, command_lines, accepted_of}
use Rattle.fragments.specs.Link.{field_end, is_length, goal, length_refusal}
use Rattle.fragments.specs.Run.{stop_verdict, is_whole, commands_of, behind_of, stops}
use Rattle.fragments.proofs.Bounds.{stop_is}
use Rattle.fragments.proofs.Uncut.{whole, short_not_whole, short_not_stops, commands_of_lem, joined_long, behind_of_lem, commands_none, behind_all, stopped_not_whole, is_stopped}
use Rattle.link.specs.Stream.{ending_of, stop_of, stream_listing}

-- the last line, behind this many commands and acceptances, where these octets are left at an offset; where more may
-- come, only that of a stream that stops
unfoldable pub ending_from : Bool → ℕ → ℕ → ℕ → List ℕ → List ℕ
ending_from over commands accepted offset rest =
    cond (stops rest) (stopped_line (commands + 1) offset (stop_verdict (length_field rest)))
    (cond over (cond (eqb (length rest) 0) (end_line commands accepted) (cut_line (commands + 1) offset)) [])

-- the lines of a stream that goes on with these octets
unfoldable pub lines_uncut : Bool → ℕ → ℕ → ℕ → List ℕ → List ℕ
lines_uncut over commands accepted offset s =
    let cs = commands_of s in
    command_lines (commands + 1) offset cs
    ++ ending_from over (commands + length cs) (accepted + accepted_of cs) (offset + length (joined cs)) (behind_of s)

-- a whole stream is listed from 0 on
module _ (stream : List ℕ) where
  abbrev cs : List (List ℕ)
  cs = commands_of stream

  pub lines_whole : lines_uncut true 0 0 0 stream ≡ stream_listing stream
  unfolding lines_uncut ending_from stream_listing ending_of
  lines_whole = rw (zero-add (length cs), zero-add (accepted_of cs), zero-add (length (joined cs)))

  pub lines_so_far : lines_uncut false 0 0 0 stream ≡ command_lines 1 0 cs ++ stop_of stream
  unfolding lines_uncut ending_from stop_of
  lines_so_far = rw (zero-add (length cs), zero-add (length (joined cs)))

module _ (over : Bool) (commands accepted offset : ℕ) (s : List ℕ) where
  -- ---- a command first

  module _ (e : is_whole s ≡ true) where
    abbrev first : List ℕ
    first = take (length_field s) s

    abbrev rest : List ℕ
    rest = drop (length_field s) s

    first_long : length first ≡ length_field s
    first_long = length-take-le (length_field s) s (whole s e).within

    -- the commands behind it, and their acceptances with its own
    abbrev later : List (List ℕ)
    later = commands_of rest

    abbrev accepted' : ℕ
    accepted' = accepted + acceptance (command_verdict first)

    abbrev ending : List ℕ
    ending =
        ending_from over (commands + 1 + length later) (accepted' + accepted_of later)
        (offset + length_field s + length (joined later)) (behind_of rest)

    ending_first : ending_from over (commands + length (commands_of s)) (accepted + accepted_of (commands_of s))
        (offset + length (joined (commands_of s))) (behind_of s) ≡ ending
    ending_first =
        let c = ap length (commands_of_lem s e) in
        let a = ap accepted_of (commands_of_lem s e) in
        let j = joined_long s e in
        let c' : commands + length (commands_of s) ≡ commands + 1 + length later = omega arith in
        let a' : accepted + accepted_of (commands_of s) ≡ accepted' + accepted_of later = omega arith in
        let j' : offset + length (joined (commands_of s)) ≡ offset + length_field s + length (joined later) =
        omega arith in
        rw (c', a', j', behind_of_lem s e)

    abbrev line : List ℕ
    line = command_line (commands + 1) offset (command_verdict first)

    command_lines_lem : command_lines (commands + 1) offset (commands_of s)
        ≡ line ++ command_lines (commands + 1 + 1) (offset + length_field s) later
    command_lines_lem =
        ap (command_lines (commands + 1) offset) (commands_of_lem s e)
        ∙ ap (λ (n : ℕ). line ++ command_lines (commands + 1 + 1) (offset + n) later) first_long

    pub lines_first : lines_uncut over commands accepted offset s
        ≡ line ++ lines_uncut over (commands + 1) accepted' (offset + length_field s) rest
    unfolding lines_uncut
    lines_first =
        ap (λ (t : List ℕ). command_lines (commands + 1) offset (commands_of s) ++ t) ending_first
        ∙ ap (λ (t : List ℕ). t ++ ending) command_lines_lem
        ∙ append_assoc line (command_lines (commands + 1 + 1) (offset + length_field s) later) ending

  -- ---- no command first

  lines_none : is_whole s ≡ false
      → lines_uncut over commands accepted offset s ≡ ending_from over commands accepted offset s
  unfolding lines_uncut
  lines_none e =
      rw (behind_all s e, commands_none s e (length s), add-zero commands, add-zero accepted, add-zero offset)

  -- the stream stops
  pub lines_stopped : field_end ≤ length s → is_length (length_field s) ≡ false
      → lines_uncut over commands accepted offset s ≡ stopped_line (commands + 1) offset (length_refusal (length_field s))
  unfolding ending_from
  lines_stopped four e = lines_none (stopped_not_whole s four e) ∙ rw (is_stopped s four e, stop_is (length_field s))

-- unfinished octets: the end where there are none, else a cut; no line where more may come
module _ (commands accepted offset : ℕ) (s : List ℕ) (less : length s < goal s) where
  lines_short : (over : Bool)
      → lines_uncut over commands accepted offset s ≡ ending_from over commands accepted offset s
  lines_short over = lines_none over commands accepted offset s (short_not_whole s less)

  pub lines_end : length s ≡ 0 → lines_uncut true commands accepted offset s ≡ end_line commands accepted
  unfolding ending_from
  lines_end z = lines_short true ∙ rw (short_not_stops s less, eq-eqb (length s) 0 z)

  pub lines_cut : 1 ≤ length s → lines_uncut true commands accepted offset s ≡ cut_line (commands + 1) offset
  unfolding ending_from
  lines_cut some = lines_short true ∙ rw (short_not_stops s less, ne_eqb (length s) 0 (λ e. omega arith))

  pub lines_open : lines_uncut false commands accepted offset s ≡ []
  unfolding ending_from
  lines_open = lines_short false ∙ rw (short_not_stops s less)
