-- The tests of a draft, one after the other.
use mathlib.Core.Path.{◌≡◌, refl}
use mathlib.Core.Bool.{Bool, true, false, ◌&&◌}
use mathlib.Core.List.{List}
use Prim.Native.Nat.{ℕ, ◌^◌, ◌<◌}
use borrow.Author.Tests.{lt-ltb, eq-eqb}
use lib.Dec.{leb}
use lib.ListN.{length, drop, get_or}
use Rattle.rules.specs.Dictionary.{dictionary}
use Rattle.rules.specs.Walk.{most_avps}
use Rattle.rules.specs.Draft.{draft_of, all_blank, all_placed, is_tree, has_sizes, identifiers_fit, is_well_formed}
use Rattle.numbers.specs.Numbers.{numbered_record, numbered_used}
use Rattle.numbers.proofs.Numbers.{avps_full, hop_in, end_in}
use Rattle.numbers.proofs.Positions.{used_names_fit}
use Rattle.draft.specs.Drafts.{draft_cells}

and_last : (b : Bool) → (b && true) ≡ b
and_last true = refl
and_last false = refl

-- a test that runs only where those before it are true
pub and_then : {before test both : Bool} → before ≡ true → both ≡ test → both ≡ (before && test)
and_then e f = rw (e, f)

pub and_else : {before both : Bool} (test : Bool) → before ≡ false → both ≡ before → both ≡ (before && test)
and_else test e f = rw (f, e)

-- the tests one after the other: what must fit four octets does so by its type
pub formed_by : (numbers s : List ℕ) → ((i : ℕ) → get_or numbers i 0 < 2 ^ 32)
    → is_well_formed (draft_of (numbered_record numbers) s)
    ≡ (leb (numbered_record numbers).count most_avps
    && all_blank (drop (numbered_record numbers).count (numbered_record numbers).avps)
    && all_placed dictionary (length s) (numbered_used numbers)
    && is_tree 1 dictionary (draft_cells s (numbered_used numbers))
    && has_sizes dictionary (draft_cells s (numbered_used numbers)))
unfolding is_well_formed identifiers_fit
formed_by numbers s small =
    let r = numbered_record numbers in
    let h : r.hop_by_hop < 2 ^ 32 = rw (hop_in numbers) (small 4) in
    let e : r.end_to_end < 2 ^ 32 = rw (end_in numbers) (small 5) in
    let room = eq-eqb (length r.avps) most_avps (avps_full numbers) in
    let fits-hop = lt-ltb r.hop_by_hop (2 ^ 32) h in
    let fits-end = lt-ltb r.end_to_end (2 ^ 32) e in
    rw (room, fits-hop, fits-end, used_names_fit numbers small, and_last)
