-- `walk_log::numbers_of` meets its contract: of a position below 256 all nine numbers stand in the log.
use mathlib.Core.Path.{◌≡◌, ap, ◌∙◌}
use mathlib.Core.List.{List}
use Prim.Native.Nat.{ℕ, ◌+◌, ◌-◌, ◌*◌, ◌≤◌, ◌<◌}
use native.Mathlib.Omega.{arith}
use lib.ListN.{length, get_or, take, drop, length-drop}
use lib.Seq.{get_or-take, get_or-drop, length-take-le}
use Rattle.std.specs.Borrow.{Bor}
use Rattle.std.proofs.Common.{Option, Some, None, MatchOption}
use Rattle.std.specs.Array.{IsFirstChunk}
use Rattle.walk_log.specs.Log.{AreNumbersOf}
use Rattle.walk_log.proofs.numbers_of.Goals as goal

module _ (log : List ℕ) (i : ℕ) (room : length log ≡ 2304) (within : i < 256) where
  part : List ℕ
  part = take (i * 9 + 9 - i * 9) (drop (i * 9) log)

  part_long : length part ≡ 9
  unfolding part
  part_long = length-take-le (i * 9 + 9 - i * 9) (drop (i * 9) log) (simp length-drop (omega arith)) ∙ omega arith

  told : (found : Option (Bor (List ℕ)))
      → MatchOption found (length part < 9) (λ numbers. IsFirstChunk part numbers.now 9)
      → MatchOption found (256 ≤ i) (λ numbers. AreNumbersOf log i numbers.now)
  unfolding part
  told None short = absurd (omega (arith, part_long, short))
  told (Some numbers) first = record {
    within = within;
    each = λ k l.
        ap (λ (ns : List ℕ). get_or ns k 0) first.same
        ∙ get_or-take 9 (take (i * 9 + 9 - i * 9) (drop (i * 9) log)) k 0 l
        ∙ get_or-take (i * 9 + 9 - i * 9) (drop (i * 9) log) k 0 (omega arith)
        ∙ get_or-drop (i * 9) log k 0;
  }

pub returns : goal.returns
unfolding part
returns c =
    told c.args.log.now c.args.position c.told-log c.if-position-ge-MOST_AVPS.false c.first_chunk.result c.first_chunk.ensures.cases
