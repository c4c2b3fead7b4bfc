-- The search of a list by the first position of each entry, which the row checks keep: what it gives for any
-- numbers. By those of a walk it is document 01's search.
use Rattle.std.specs.Prelude.{ℕ, List, cond, ltb, get_or, Option, Some, None}
use Rattle.rules.specs.Dictionary.{dictionary}
use Rattle.rules.specs.Walk.{most_avps}
use Rattle.dictionary.specs.Entries.{entry_of}

-- a position among so many AVPs, or none
abbrev pub found_below : ℕ → ℕ → Option ℕ
found_below count i = cond (ltb i count) (Some i) None

-- the first position of the entry of a vendor and code, where there is one
unfoldable pub find_in : List ℕ → ℕ → ℕ → ℕ → Option ℕ
find_in firsts count vendor code = found_below count (get_or firsts (entry_of dictionary vendor code) most_avps)
