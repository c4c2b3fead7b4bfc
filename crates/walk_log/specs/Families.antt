-- The AVPs of a walk as families, by their depths alone: an AVP, then its descendants, which are the AVPs right behind
-- it that are deeper.
use Rattle.std.specs.Prelude.{◌≡◌, ℕ, suc, ◌+◌, ◌<◌, List, [], ◌∷◌, ◌++◌, cond, ltb, length, get_or}
use Rattle.rules.specs.declared.Avp.{Avp}
use Rattle.rules.specs.Search.{blank}
use Rattle.walk_log.specs.Log.{Logged, logged_of}

-- how many AVPs follow that are deeper than this, up to the first that is not
unfoldable pub deeper : ℕ → List Avp → ℕ
deeper depth [] = 0
deeper depth (a ∷ xs) = cond (ltb depth a.depth) (suc (deeper depth xs)) 0

-- what stands where there is no position
abbrev pub none_logged : Logged
none_logged = record { avp = blank; entry = 0; after = 0 }

-- AVPs in walk order, the first at position i, as a log keeps them; `entry` gives the number of a name's entry
unfoldable pub logged_from : (ℕ → ℕ → ℕ) → ℕ → List Avp → List Logged
logged_from entry i [] = []
logged_from entry i (a ∷ xs) =
    record { avp = a; entry = entry a.vendor a.code; after = i + 1 + deeper a.depth xs } ∷ logged_from entry (i + 1) xs

-- a log holds these from position 0 on
abbrev pub Keeps : List ℕ → List Logged → Type 0
Keeps log ls = (i : ℕ) → i < length ls → logged_of log i ≡ get_or ls i none_logged

-- lists of AVPs with their members: none, or an AVP with its members, then the rest of its list
pub data Forest : Type 0 where
  none : Forest
  family : Avp → Forest → Forest → Forest

-- its AVPs in walk order
abbrev pub flat : Forest → List Avp
flat none = []
flat (family a members rest) = a ∷ flat members ++ flat rest

-- a list at this depth, whose members stand one deeper
abbrev pub Placed : ℕ → Forest → Type 0
Placed depth none = Unit {0}
Placed depth (family a members rest) = (a.depth ≡ depth) × Placed (depth + 1) members × Placed depth rest

-- AVPs that are the list of a depth with all descendants
pub record IsForest (depth : ℕ) (xs : List Avp) : Type 0 where
  pub forest : Forest
  pub is : xs ≡ flat forest
  pub placed : Placed depth forest
