-- What request [5] claims of the windows in a command (proofs/demands/Windows): which are right, and which one's fault
-- comes back. xs are the AVPs of the command's walk.
use Rattle.std.specs.Prelude.{◌≡◌, List, ℕ, ◌<◌, ℤ, pos, length, ◌≤ℤ◌, ◌<ℤ◌}
use Rattle.rules.specs.declared.Avp.{Avp}
use Rattle.rules.specs.Octets.{number_at}
use Rattle.rules.specs.Header.{vendor_3gpp}
use Rattle.rules.specs.Search.{avp_in, FirstMember}
use Rattle.rules.specs.Times.{seconds}

-- a 4204, at any depth, is at position k
abbrev pub IsWindow : List Avp → ℕ → Type 0
IsWindow xs k = ((avp_in xs k).vendor ≡ vendor_3gpp) × ((avp_in xs k).code ≡ 4204)

-- its start, 4206, is at position i and its end, 4205, at position j
pub record Window (xs : List Avp) (k i j : ℕ) : Type 0 where
  pub window : IsWindow xs k
  pub start : FirstMember xs k vendor_3gpp 4206 i
  pub end : FirstMember xs k vendor_3gpp 4205 j

-- the seconds from the time at position i to the one at position j
abbrev pub seconds_of : List ℕ → List Avp → ℕ → ℕ → ℤ
seconds_of c xs i j = seconds (number_at 4 c (avp_in xs i).start) (number_at 4 c (avp_in xs j).start)

-- the window at position k is right: these seconds are above 0
pub record RightWindow (c : List ℕ) (xs : List Avp) (k : ℕ) : Type 0 where
  pub i : ℕ
  pub j : ℕ
  pub window : Window xs k i j
  pub above : pos 0 <ℤ seconds_of c xs i j

-- the one at position k, whose end is at position j, is not
pub record WrongWindow (c : List ℕ) (xs : List Avp) (k j : ℕ) : Type 0 where
  pub i : ℕ
  pub window : Window xs k i j
  pub not_above : seconds_of c xs i j ≤ℤ pos 0

-- all windows before position k are right; all windows
abbrev pub RightBefore : List ℕ → List Avp → ℕ → Type 0
RightBefore c xs k = (i : ℕ) → i < k → IsWindow xs i → RightWindow c xs i

abbrev pub AllRight : List ℕ → List Avp → Type 0
AllRight c xs = RightBefore c xs (length xs)
