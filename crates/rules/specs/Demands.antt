-- What the theorems of the demands claim (proofs/demands/Demands), put together from the definitions before: accepted,
-- unaltered, written, rewritten, and the whole output after a list of calls.
use Rattle.std.specs.Prelude.{◌≡◌, ℕ, List, ◌++◌, length, drop}
use Rattle.rules.specs.Verdict.{Accepted}
use Rattle.rules.specs.Command.{command_verdict}
use Rattle.rules.specs.Meaning.{meaning_of}
use Rattle.rules.specs.Draft.{Draft, own_draft, draft_meaning}
use Rattle.rules.specs.Writer.{writing, output_after}
use Rattle.rules.specs.Calls.{front, rest, all_written, output_after_all, told_length}

-- an accepted command, and an accepted call
abbrev pub AcceptedCommand : List ℕ → Type 0
AcceptedCommand c = Accepted (command_verdict c)

abbrev pub AcceptedWrite : Draft → List ℕ → Type 0
AcceptedWrite d out = Accepted (writing d out).verdict

-- what a refused call leaves behind: the output, a length of 0, and the same part for the next call
pub record Unaltered (d : Draft) (out : List ℕ) : Type 0 where
  pub output : output_after d out ≡ out
  pub none : (writing d out).length ≡ 0
  pub part : rest d out ≡ out

-- what an accepted call wrote: an accepted command with the draft's meaning, as long as the answer says
pub record WroteMeaning (d : Draft) (out : List ℕ) : Type 0 where
  pub accepted : AcceptedCommand (front d out)
  pub means : meaning_of (front d out) ≡ draft_meaning d
  pub long : length (front d out) ≡ (writing d out).length

-- the draft of a command's own record over its octets is accepted; what the call wrote is an accepted command with the
-- command's meaning, and as long
pub record Rewritten (c out : List ℕ) : Type 0 where
  pub call : AcceptedWrite (own_draft c) out
  pub again : AcceptedCommand (front (own_draft c) out)
  pub means : meaning_of (front (own_draft c) out) ≡ meaning_of c
  pub long : (writing (own_draft c) out).length ≡ length c

-- the whole output after a list of calls: the octets written end to end, as many as the answers say, and then what
-- was there
pub record WholeOutput (ds : List Draft) (out : List ℕ) : Type 0 where
  pub output : output_after_all ds out ≡ all_written ds out ++ drop (length (all_written ds out)) out
  pub told : told_length ds out ≡ length (all_written ds out)
  pub long : length (output_after_all ds out) ≡ length out
