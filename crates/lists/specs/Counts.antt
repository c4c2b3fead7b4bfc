-- What the counting of a member asks.
use Rattle.std.specs.Prelude.{List, ℕ, ◌<◌, get_or}

-- no count is full
pub record HasRoom (counts : List ℕ) : Type 0 where
  pub room : (row : ℕ) → get_or counts row 0 < 65535
