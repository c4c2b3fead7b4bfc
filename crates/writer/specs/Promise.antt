-- The promises of the writer: what a call answers and leaves.
use Rattle.std.specs.Prelude.{◌≡◌, ℕ, ◌≤◌, List, Result, Ok, Err}
use Rattle.rules.specs.declared.Verdict.{Verdict}
use Rattle.rules.specs.declared.Written.{Written}
use Rattle.rules.specs.Verdict.{verdict}
use Rattle.rules.specs.Header.{longest_command}
use Rattle.rules.specs.Draft.{Draft}
use Rattle.rules.specs.Writer.{writing, output_after}

-- what a call gives of a draft: the answer, and the output as it stands afterwards
pub record IsWritten (d : Draft) (out : List ℕ) (w : Written) (after : List ℕ) : Type 0 where
  pub answer : w ≡ writing d out
  pub left : after ≡ output_after d out

-- the size of the command that was written, or the refusal, as an answer
abbrev pub answer_of : Result ℕ Verdict → Written
answer_of (Ok size) = record { verdict = verdict 0 0 0 0; length = size }
answer_of (Err v) = record { verdict = v; length = 0 }

-- the same of that size, which no command exceeds
pub record IsWrittenBy (d : Draft) (out : List ℕ) (r : Result ℕ Verdict) (after : List ℕ) : Type 0 where
  pub written : IsWritten d out (answer_of r) after
  pub short : (answer_of r).length ≤ longest_command
