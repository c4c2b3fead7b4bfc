-- `writer::write` meets its contract: the numbers stand for the draft's record.
use borrow.Author.Rules.{rules}
use mathlib.Core.Path.{◌≡◌, ap, subst, ◌∙◌}
use mathlib.Core.List.{List}
use Prim.Native.Nat.{ℕ}
use lib.ListN.{length}
use Rattle.rules.specs.Walk.{most_avps}
use Rattle.rules.specs.Draft.{Draft}
use Rattle.numbers.specs.Numbers.{numbers_of}
use Rattle.numbers.specs.Draft.{numbered_draft}
use Rattle.numbers.proofs.Numbers.{length-mapped}
use Rattle.numbers.proofs.Draft.{numbered_draft_lem}
use Rattle.writer.specs.Promise.{IsWritten}
use Rattle.writer.proofs.write.Goals as goal

pub returns : goal.returns
returns c =
    let a = c.args in
    let full : length a.draft.avps ≡ most_avps = search (rules, length-mapped) in
    let put : c.put.new.numbers ≡ numbers_of a.draft = c.put.ensures in
    let same = ap (λ (n : List ℕ). numbered_draft n a.s.now) put
    ∙ numbered_draft_lem a.draft full a.s.now in
    let w = c.write_numbers in
    let is : Draft → Type 0 = λ d. IsWritten d a.out.now w.result w.new.out in
    subst is same w.ensures
