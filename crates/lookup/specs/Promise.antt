-- What a search promises: 02 [9]'s search among the AVPs of a record, and what it gives once it looks at one AVP more.
use Rattle.std.specs.Prelude.{◌≡◌, List, [], ◌∷◌, ◌++◌, ℕ, ◌≤◌, length}
use Rattle.rules.specs.declared.Avp.{Avp}
use Rattle.rules.specs.declared.Record.{Record}
use Rattle.rules.specs.declared.Sought.{Sought}
use Rattle.rules.specs.Walk.{most_avps}
use Rattle.rules.specs.Search.{search, position_of}
use Rattle.rules.specs.Record.{search_record}

-- the answer, by its constructor and as a number, and that both numbers are at most 256
pub record IsSought (r : Record) (vendor code ordinal : ℕ) (sought : Sought) : Type 0 where
  pub is : sought ≡ search_record r vendor code ordinal
  pub told : position_of sought.found ≡ position_of (search_record r vendor code ordinal).found
  pub room : position_of sought.found ≤ most_avps
  pub few : sought.number ≤ most_avps

-- from what a search gives among some AVPs, what it gives with one more behind them
abbrev pub SoughtNext : Sought → Avp → ℕ → ℕ → ℕ → ℕ → Sought → Type 0
SoughtNext before a position vendor code ordinal r =
    (xs : List Avp) → length xs ≡ position → before ≡ search xs vendor code ordinal
    → r ≡ search (xs ++ (a ∷ [])) vendor code ordinal
