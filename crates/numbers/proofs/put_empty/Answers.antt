-- `numbers::put_empty` meets its contract: the numbers, all 0 after `fill`, compute to those of the empty record.
use mathlib.Core.Path.{◌≡◌, sym, ap, ◌∙◌}
use Prim.Native.Nat.{ℕ}
use lib.ListN.{replicate}
use Rattle.numbers.specs.Numbers.{record_numbers}
use Rattle.numbers.proofs.Numbers.{numbers_empty}
use Rattle.numbers.proofs.put_empty.Goals as goal

pub returns : goal.returns
returns c =
    let filled : c.fill.new.self ≡ replicate record_numbers 0 =
    c.fill.ensures.after (λ y e. e) ∙ ap (λ (n : ℕ). replicate n 0) c.told-numbers in
    rw filled (sym numbers_empty)
