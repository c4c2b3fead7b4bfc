-- The canonical form of an accepted command, by which the lab names a state: the octets that the writer gives to the
-- command's meaning, that is its record written over its octets. 01 has the two parts, the reader's answer and the
-- writer's room; here they are one answer. Definitions, and what the theorems of proofs/demands/States claim of them.
use Rattle.std.specs.Prelude.{◌≡◌, true, ℕ, List, ◌∷◌, length, take, ltb}
use Rattle.rules.specs.declared.Written.{Written}
use Rattle.rules.specs.Verdict.{Accepted, writer_numbers, is_among, verdict, refused, refuse_if, or_else, Outcome, no_refusal}
use Rattle.rules.specs.Command.{command_outcome, command_verdict}
use Rattle.rules.specs.Meaning.{meaning_of}
use Rattle.rules.specs.Wire.{command_octets}
use Rattle.rules.specs.Draft.{own_draft}
use Rattle.rules.specs.Writer.{octets_by, answer_by, written_over, writing, output_after}
use Rattle.rules.specs.Demands.{AcceptedCommand}

-- the one canonical form of a command: padding and reserved bits are 0
unfoldable pub canonical_octets : List ℕ → List ℕ
canonical_octets s = command_octets (meaning_of s)

-- the reader's refusal, then 7004
unfoldable pub canonical_outcome : List ℕ → ℕ → Outcome
canonical_outcome s room =
    or_else (command_outcome s) (refuse_if (ltb room (length (canonical_octets s))) (refused 7004 0 0 0) no_refusal)

-- the octets that a call writes
unfoldable pub canonical_written : List ℕ → ℕ → List ℕ
canonical_written s room = octets_by (canonical_outcome s room) (canonical_octets s)

-- the answer of a call
unfoldable pub canonical : List ℕ → List ℕ → Written
canonical s out = answer_by (canonical_outcome s (length out)) (canonical_written s (length out))

-- the output after a call
unfoldable pub canonical_output : List ℕ → List ℕ → List ℕ
canonical_output s out = written_over (canonical_written s (length out)) out

-- what a call wrote: of its output as it stands afterwards, as much as its answer says
abbrev pub canonical_front : List ℕ → List ℕ → List ℕ
canonical_front s out = take (canonical s out).length (canonical_output s out)

-- ---- what is claimed

-- the canonical form of an accepted command is accepted, has the command's meaning and length, and is its own canonical
-- form
pub record HasForm (c : List ℕ) : Type 0 where
  pub accepted : AcceptedCommand (canonical_octets c)
  pub means : meaning_of (canonical_octets c) ≡ meaning_of c
  pub long : length (canonical_octets c) ≡ length c
  pub again : canonical_octets (canonical_octets c) ≡ canonical_octets c

-- an accepted call
abbrev pub AcceptedCanonical : List ℕ → List ℕ → Type 0
AcceptedCanonical c out = Accepted (canonical c out).verdict

-- a call answers and leaves what the writer does for the command's own record over its octets
pub record OwnWritten (c out : List ℕ) : Type 0 where
  pub answer : canonical c out ≡ writing (own_draft c) out
  pub output : canonical_output c out ≡ output_after (own_draft c) out

-- a refused call leaves the output as it was and says the length 0; its verdict is the reader's where the command is
-- refused, and else 7004
pub record RefusedCall (c out : List ℕ) : Type 0 where
  pub output : canonical_output c out ≡ out
  pub none : (canonical c out).length ≡ 0
  pub reader : (AcceptedCommand c → ⊥) → (canonical c out).verdict ≡ command_verdict c
  pub short : AcceptedCommand c → (canonical c out).verdict ≡ verdict 7004 0 0 0

-- the number of a call is 0 or one of 01's table
abbrev pub InTable : List ℕ → List ℕ → Type 0
InTable c out = is_among (0 ∷ writer_numbers) (canonical c out).verdict.number ≡ true
