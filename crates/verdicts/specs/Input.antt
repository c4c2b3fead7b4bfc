-- What the program promises: no contract can say which octets were read, or that written octets arrive.
use Rattle.std.specs.Prelude.{◌≡◌, ◌⊎◌, ℕ, ◌≤◌, List, take, Result, Ok, Err, IsOkAnd, IfOk}
use Rattle.std.specs.declared.io.Error.{Error}
use Rattle.book.specs.Promise.{ListingPut, room}
use Rattle.verdicts.specs.declared.Input.{Input}

-- octets are given back only where they fill a buffer of this room, or where the last read gave none
abbrev pub ReadWhole : ℕ → Result Input Error → Type 0
ReadWhole space (Ok input) = (input.count ≤ space) × ((input.count ≡ space) ⊎ (input.last ≡ 0))
ReadWhole space (Err e) = Unit

-- what is put for an input: the listing of the octets that were read; after a read that failed nothing, and it is told
abbrev pub PrintedBy : Result Input Error → List ℕ → List ℕ → Result ℕ Error → List ℕ → Type 0
PrintedBy (Ok input) buffer before r after = IsOkAnd r (λ n. ListingPut (take input.count buffer) before n after)
PrintedBy (Err e) buffer before r after = (r ≡ Err e) × (after ≡ before)

pub record Printed (input : Result Input Error) (buffer before : List ℕ) (r : Result ℕ Error) (after : List ℕ) : Type 0
  where
    pub put : PrintedBy input buffer before r after
    pub within : IfOk r (λ n. n ≤ room)
