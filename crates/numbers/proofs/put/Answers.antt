-- `numbers::put` meets its contract. With the AVPs from a position on put, the numbers are those of the record.
use borrow.Author.Rules.{rules}
use mathlib.Core.Path.{◌≡◌, refl, sym, ap, ◌∙◌}
use mathlib.Core.List.{List}
use Prim.Native.Nat.{ℕ}
use native.Mathlib.Omega.{arith}
use lib.ListN.{length}
use Rattle.rules.specs.Walk.{most_avps}
use Rattle.numbers.specs.Numbers.{put_avps}
use Rattle.numbers.proofs.Numbers.{length-mapped}
use Rattle.numbers.proofs.Puts.{put_next, put_end, put_whole}
use Rattle.numbers.proofs.put.Goals as goal

pub loop-position-init : goal.loop-position-init
loop-position-init c =
    let a = c.args in
    let full : length a.record.avps ≡ most_avps = search (rules, length-mapped) in
    ap (λ (l : List ℕ). put_avps l 0 a.record.avps) c.put_head.ensures
    ∙ put_whole a.numbers.now c.told-numbers a.record full

pub loop-position-preserved : goal.loop-position-preserved
loop-position-preserved c =
    let l = c.loop-position in
    put_next l.numbers l.position _ _ c.put_avp.ensures c.args.record.avps (omega arith) refl ∙ l.invariant

pub returns : goal.returns
returns c =
    let l = c.loop-position in
    sym (put_end l.numbers l.position c.args.record.avps (omega arith)) ∙ l.invariant
