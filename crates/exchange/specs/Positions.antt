-- What the private functions promise beside the definitions of document 01: of a search, that what it found is a
-- position of one of the AVPs; and two of 01's rules that are judged at once.
use Rattle.std.specs.Prelude.{◌≡◌, List, ℕ, ◌<◌, Option, Some}
use Rattle.rules.specs.declared.Avp.{Avp}
use Rattle.rules.specs.Verdict.{or_else, Outcome}
use Rattle.rules.specs.Exchange.{volume, total_alone}

-- what a search among `count` AVPs gives
pub record IsFoundAmong (f : Option ℕ) (count : ℕ) (r : Option ℕ) : Type 0 where
  pub is : r ≡ f
  pub used : (i : ℕ) → r ≡ Some i → i < count

-- a volume, then the total alone
abbrev pub volumes : (ℕ → ℕ → Option ℕ) → List Avp → ℕ → Outcome
volumes find xs end = or_else (volume find end) (total_alone find xs)
