-- The promise of `canonical`: its answer and what it leaves, and of an accepted call what the octets are that it wrote.
use Rattle.std.specs.Prelude.{◌≡◌, ℕ, List, length, take}
use Rattle.rules.specs.declared.Written.{Written}
use Rattle.rules.specs.Verdict.{Accepted, verdict}
use Rattle.rules.specs.Command.{command_verdict}
use Rattle.rules.specs.Meaning.{meaning_of}
use Rattle.rules.specs.Canonical.{canonical, canonical_output}

-- the answer and the output as it stands afterwards; of an accepted call, what was written is an accepted command,
-- means what the command means, and is as long
pub record IsCanonical (s out : List ℕ) (w : Written) (after : List ℕ) : Type 0 where
  pub answer : w ≡ canonical s out
  pub left : after ≡ canonical_output s out
  pub accepted : Accepted w.verdict → command_verdict (take w.length after) ≡ verdict 0 0 0 0
  pub means : Accepted w.verdict → meaning_of (take w.length after) ≡ meaning_of s
  pub long : Accepted w.verdict → w.length ≡ length s
