-- 01, The record and the writer: what a write call answers and leaves behind.
use Rattle.std.specs.Prelude.{ℕ, List, [], ◌++◌, not, length, drop, ltb, Err, Ok}
use Rattle.rules.specs.declared.Written.{Written}
use Rattle.rules.specs.Verdict.{refused, refuse_if, or_else, verdict_of, Outcome, no_refusal}
use Rattle.rules.specs.Header.{longest_command}
use Rattle.rules.specs.Command.{command_outcome}
use Rattle.rules.specs.Wire.{command_octets}
use Rattle.rules.specs.Draft.{Draft, draft_meaning, is_well_formed}

-- the octets that a draft would be written as
abbrev pub draft_octets : Draft → List ℕ
draft_octets d = command_octets (draft_meaning d)

-- the writer's own refusals: 7006, 7001, 7004; place, vendor and code are 0
unfoldable pub own_outcome : Draft → ℕ → Outcome
own_outcome d room =
    refuse_if (not (is_well_formed d)) (refused 7006 0 0 0)
    (refuse_if (ltb longest_command (length (draft_octets d))) (refused 7001 0 0 0)
    (refuse_if (ltb room (length (draft_octets d))) (refused 7004 0 0 0)
    no_refusal))

-- then the refusal that the reader gives to those octets
unfoldable pub draft_outcome : Draft → ℕ → Outcome
draft_outcome d room = or_else (own_outcome d room) (command_outcome (draft_octets d))

-- the octets that a call writes
abbrev pub octets_by : Outcome → List ℕ → List ℕ
octets_by (Ok u) s = s
octets_by (Err v) s = []

unfoldable pub octets_written : Draft → ℕ → List ℕ
octets_written d room = octets_by (draft_outcome d room) (draft_octets d)

-- what a call answers that wrote these octets: the verdict and their number
abbrev pub answer_by : Outcome → List ℕ → Written
answer_by o xs = record { verdict = verdict_of o; length = length xs }

-- an output with these octets at its start: those past them are untouched
abbrev pub written_over : List ℕ → List ℕ → List ℕ
written_over xs out = xs ++ drop (length xs) out

-- the answer of a call: the verdict, and the written length, 0 with a refusal
unfoldable pub writing : Draft → List ℕ → Written
writing d out = answer_by (draft_outcome d (length out)) (octets_written d (length out))

-- the output after a call; after a refusal it is as it was
unfoldable pub output_after : Draft → List ℕ → List ℕ
output_after d out = written_over (octets_written d (length out)) out
