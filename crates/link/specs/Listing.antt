-- The listing of a stream (docs/rules.md, Listing of a stream), piece by piece: a line for each command as soon as it
-- is whole, with its ordinal, its offset in the stream and its verdict; `stopped` with number and place where the run
-- stops.
use Rattle.std.specs.Prelude.{ℕ, zero, suc, ◌+◌, ◌%◌, ◌^◌, Bool, cond, not, ◌||◌, List, [], ◌++◌, length, drop, ◌==◌}
use Rattle.rules.specs.Lines.{command_line, cut_line, end_line, stopped_line}
use Rattle.rules.specs.Book.{acceptance}
use Rattle.fragments.specs.declared.State.{State}
use Rattle.fragments.specs.declared.Progress.{Progress}
use Rattle.fragments.specs.declared.Progress.TheVariants.{Unfinished, Command, Refusal}
use Rattle.fragments.specs.declared.Step.{Step}
use Rattle.fragments.specs.Link.{fresh, step, buffer_after}
use Rattle.link.specs.declared.Tally.{Tally}

-- counts and offsets are numbers of 64 bits: from 2^64 on they begin anew at 0
unfoldable pub counted : ℕ → ℕ
counted n = n % 2 ^ 64

-- commands and acceptances so far, the offset of the command that is being read, and the reader's state
abbrev pub tally : ℕ → ℕ → ℕ → State → Tally
tally commands accepted offset st = record { commands = commands; accepted = accepted; offset = offset; state = st }

-- before the first octet
abbrev pub none_yet : Tally
none_yet = tally 0 0 0 fresh

-- the answer of the reader to octets
abbrev pub answer_to : Tally → List ℕ → List ℕ → Step
answer_to t buffer octets = step t.state octets buffer

-- the line for an answer: none while a command is unfinished
abbrev pub line_by : Tally → Progress → List ℕ
line_by t Unfinished = []
line_by t (Command v) = command_line (counted (t.commands + 1)) t.offset v
line_by t (Refusal v) = stopped_line (counted (t.commands + 1)) t.offset v

-- the tally after an answer, with the reader's new state. A command is as long as the octets held and taken
abbrev pub tally_by : Tally → ℕ → Progress → State → Tally
tally_by t size Unfinished st = tally t.commands t.accepted t.offset st
tally_by t size (Command v) st =
    tally (counted (t.commands + 1)) (counted (t.accepted + acceptance v)) (counted (t.offset + size)) st
tally_by t size (Refusal v) st = tally t.commands t.accepted t.offset st

unfoldable pub tally_after : Tally → List ℕ → List ℕ → Tally
tally_after t buffer octets =
    let a = answer_to t buffer octets in
    tally_by t (t.state.held + a.taken) a.progress a.state

-- what a piece of a stream gives: text, and the tally and the buffer afterwards
pub record Listed : Type 0 where
  pub tally : Tally
  pub buffer : List ℕ
  pub text : List ℕ

abbrev pub listed : Tally → List ℕ → List ℕ → Listed
listed t buffer text = record { tally = t; buffer = buffer; text = text }

-- text in front of what follows
abbrev pub behind : List ℕ → Listed → Listed
behind text l = listed l.tally l.buffer (text ++ l.text)

-- nothing is listed of no octets, nor once the run has stopped
abbrev pub is_over : Tally → List ℕ → Bool
is_over t octets = length octets == 0 || not (t.state.stopped == 0)

-- the listing of octets. The first argument bounds the calls of the reader; as many as there are octets is enough. A
-- call that takes nothing is the last one
unfoldable pub list_from : ℕ → Tally → List ℕ → List ℕ → Listed
list_from zero t buffer octets = listed t buffer []
list_from (suc n) t buffer octets =
    cond (is_over t octets) (listed t buffer [])
    (let a = answer_to t buffer octets in
    let after = buffer_after t.state octets buffer in
    behind (line_by t a.progress)
    (cond (a.taken == 0) (listed (tally_after t buffer octets) after [])
    (list_from n (tally_after t buffer octets) after (drop a.taken octets))))

abbrev pub list_piece : Tally → List ℕ → List ℕ → Listed
list_piece t buffer piece = list_from (length piece) t buffer piece

-- the last line at the end of the input: `end` with commands and acceptances, or `cut` where octets are held; none once
-- the run has stopped, since `stopped` is the last line then
unfoldable pub last_line : Tally → List ℕ
last_line t =
    cond (not (t.state.stopped == 0)) []
    (cond (t.state.held == 0) (end_line t.commands t.accepted)
    (cut_line (counted (t.commands + 1)) t.offset))
