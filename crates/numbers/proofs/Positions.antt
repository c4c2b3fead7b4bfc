-- The AVPs of the record that numbers stand for, position by position, and names that fit four octets.
use mathlib.Core.Path.{◌≡◌, refl, ap, ◌∙◌}
use mathlib.Core.Bool.{true}
use mathlib.Core.List.{List, [], ◌∷◌}
use Prim.Native.Nat.{ℕ, zero, suc, ◌+◌, ◌^◌, ◌≤◌, ◌<◌, min}
use native.Mathlib.Numerals.{add-one}
use native.Mathlib.Omega.{arith}
use borrow.Author.Tests.{lt-ltb}
use lib.ListN.{length, get_or, take, drop, drop_of_length-le}
use lib.Seq.{drop-cons, get_or-take, length-take-le}
use Rattle.rules.specs.Walk.{most_avps}
use Rattle.rules.specs.Search.{blank, avp_in}
use Rattle.rules.specs.Draft.{name_fits, names_fit}
use Rattle.numbers.specs.Numbers.{numbered_place, numbered_avp, numbered_avps, numbered_count, numbered_record, numbered_used}
use Rattle.numbers.proofs.Numbers.{avps_full, avp_in_lem, count_in}

module _ (numbers : List ℕ) where
  -- ---- all 256 positions

  pub avps_next : (i : ℕ) → i < most_avps
      → drop i (numbered_record numbers).avps ≡ numbered_avp numbers i ∷ drop (i + 1) (numbered_record numbers).avps
  avps_next i h =
      let full = avps_full numbers in
      drop-cons (numbered_record numbers).avps i blank (omega arith) ∙ rw (avp_in_lem numbers i h, add-one i)

  pub avps_end : (i : ℕ) → most_avps ≤ i → drop i (numbered_record numbers).avps ≡ []
  avps_end i h =
      let full = avps_full numbers in
      let short : length (numbered_record numbers).avps ≤ i = omega arith in
      drop_of_length-le (numbered_record numbers).avps short

  -- ---- those in use

  pub used_many : length (numbered_used numbers) ≡ min (numbered_count numbers) most_avps
  used_many =
      let full = avps_full numbers in
      length-take-le (min (numbered_record numbers).count most_avps) (numbered_record numbers).avps (omega arith)
      ∙ ap (λ (n : ℕ). min n most_avps) (count_in numbers)

  pub used_at : (i : ℕ) → i < min (numbered_count numbers) most_avps → avp_in (numbered_used numbers) i ≡ numbered_avp numbers i
  used_at i h =
      let in_use : i < min (numbered_record numbers).count most_avps = rw (count_in numbers) h in
      get_or-take (min (numbered_record numbers).count most_avps) (numbered_record numbers).avps i blank in_use
      ∙ avp_in_lem numbers i (omega arith)

  pub used_next : (i : ℕ) → i < min (numbered_count numbers) most_avps
      → drop i (numbered_used numbers) ≡ numbered_avp numbers i ∷ drop (i + 1) (numbered_used numbers)
  used_next i h =
      let used : i < length (numbered_used numbers) = rw used_many h in
      drop-cons (numbered_used numbers) i blank used ∙ rw (used_at i h, add-one i)

  pub used_end : (i : ℕ) → min (numbered_count numbers) most_avps ≤ i → drop i (numbered_used numbers) ≡ []
  used_end i h =
      let short : length (numbered_used numbers) ≤ i = rw used_many h in
      drop_of_length-le (numbered_used numbers) short

  -- ---- names

  module _ (small : (i : ℕ) → get_or numbers i 0 < 2 ^ 32) where
    names_from : (i n k : ℕ) → names_fit (take k (numbered_avps numbers i n)) ≡ true
    unfolding names_fit name_fits numbered_avps numbered_avp
    names_from i n zero = refl
    names_from i zero (suc k) = refl
    names_from i (suc n) (suc k) =
        let rest = names_from (i + 1) n k in
        rw (lt-ltb _ _ (small (numbered_place i + 1)), lt-ltb _ _ (small (numbered_place i + 2))) rest

    pub used_names_fit : names_fit (numbered_used numbers) ≡ true
    unfolding numbered_record
    used_names_fit = names_from 0 most_avps (min (numbered_count numbers) most_avps)
