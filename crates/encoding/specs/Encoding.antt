-- 01, The record and the writer: a draft encoded. The writer's own refusals in their order, before the reader is asked.
use Rattle.std.specs.Prelude.{◌≡◌, ℕ, List, ◌++◌, length, drop, Result, Ok, Err}
use Rattle.rules.specs.declared.Verdict.{Verdict}
use Rattle.rules.specs.Verdict.{Outcome, verdict, verdict_of, no_refusal}
use Rattle.rules.specs.Draft.{Draft}
use Rattle.rules.specs.Writer.{draft_octets, own_outcome, octets_by}

-- the octets that are put, none with a refusal
unfoldable pub encoded_octets : Draft → ℕ → List ℕ
encoded_octets d room = octets_by (own_outcome d room) (draft_octets d)

-- what `encode` gives: its outcome, and how many octets it put, none with a refusal
abbrev pub outcome_of : Result ℕ Verdict → Outcome
outcome_of (Ok size) = no_refusal
outcome_of (Err v) = Err v

abbrev pub size_of : Result ℕ Verdict → ℕ
size_of (Ok size) = size
size_of (Err v) = 0

-- and the array as it stands afterwards
pub record IsEncoded (d : Draft) (room : ℕ) (before : List ℕ) (r : Result ℕ Verdict) (after : List ℕ) : Type 0 where
  pub outcome : outcome_of r ≡ own_outcome d room
  pub told : verdict_of (outcome_of r) ≡ verdict_of (own_outcome d room)
  pub size : size_of r ≡ length (encoded_octets d room)
  pub left : after ≡ encoded_octets d room ++ drop (length (encoded_octets d room)) before

abbrev pub not_encoded : ℕ → Result ℕ Verdict
not_encoded number = Err (verdict number 0 0 0)
