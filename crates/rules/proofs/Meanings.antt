-- Meanings with the same fields are the same.
use mathlib.Core.Path.{◌≡◌}
use mathlib.Core.Bool.{Bool}
use mathlib.Core.List.{List}
use Prim.Native.Nat.{ℕ}
use Rattle.rules.specs.Meaning.{Cell, Meaning}

abbrev meaning : Bool → Bool → Bool → Bool → ℕ → ℕ → ℕ → List Cell → Meaning
meaning r p e t hop end count cells =
    record { r = r; p = p; e = e; t = t; hop_by_hop = hop; end_to_end = end; count = count; cells = cells }

pub same_fields : (m n : Meaning) → m.r ≡ n.r → m.p ≡ n.p → m.e ≡ n.e → m.t ≡ n.t → m.hop_by_hop ≡ n.hop_by_hop
    → m.end_to_end ≡ n.end_to_end
    → m.count ≡ n.count → m.cells ≡ n.cells → m ≡ n
same_fields m n r p e t hop end count cells =
    let same : meaning m.r m.p m.e m.t m.hop_by_hop m.end_to_end m.count m.cells
    ≡ meaning n.r n.p n.e n.t n.hop_by_hop n.end_to_end n.count n.cells = cc in
    same
