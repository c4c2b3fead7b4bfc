-- `boundary::talazumir_search` meets its contract.
use mathlib.Core.Path.{◌≡◌, refl, ap, ◌∙◌}
use Prim.Native.Nat.{ℕ}
use Rattle.std.specs.Prelude.{Option, Some, None}
use Rattle.std.specs.Option.{unwrap_or}
use Rattle.rules.specs.Walk.{most_avps}
use Rattle.rules.specs.Search.{position_of}
use Rattle.boundary.specs.Parts.{sought_numbers, search_numbers}
use Rattle.boundary.proofs.talazumir_search.Goals as goal

-- 256 for none
told : (found : Option ℕ) → unwrap_or found most_avps ≡ position_of found
told (Some i) = refl
told None = refl

pub returns : goal.returns
unfolding search_numbers
returns c =
    let position = c.unwrap_or.ensures ∙ told c.search_numbers-sought.result.found in
    rw position (ap sought_numbers c.search_numbers-sought.ensures.is)
