-- Laws of the part of a slice that is the data of a position, from a record as numbers.
use mathlib.Core.Path.{◌≡◌, sym, ap, ◌∙◌}
use mathlib.Core.List.{List}
use Prim.Native.Nat.{ℕ, ◌+◌, ◌≤◌, ◌<◌, min}
use native.Mathlib.Omega.{arith}
use lib.ListN.{length, take, drop}
use Rattle.rules.specs.declared.Avp.{Avp}
use Rattle.rules.specs.Walk.{most_avps}
use Rattle.rules.specs.Search.{avp_in}
use Rattle.rules.specs.Record.{data_start, data_length}
use Rattle.lookup.proofs.Positions.{lies_unused, lies_outside, lies_inside, data_unused, data_outside, data_inside}
use Rattle.numbers.specs.Numbers.{numbered_avp, numbered_count, numbered_record}
use Rattle.boundary.specs.declared.Part.{Part}
use Rattle.boundary.specs.Parts.{part, no_part, part_at, IsData}
use Rattle.numbers.proofs.Numbers.{avp_in_lem, count_in}

-- a part that is empty at the start, field by field
same_part : {start size from count : ℕ} → start ≡ from → size ≡ count → part start size ≡ part from count
same_part e f = rw (e, f)

pub empty_part : (p : Part) → (p.start ≡ 0) × (p.length ≡ 0) → p ≡ no_part
empty_part p e = same_part e.0 e.1

module _ (numbers : List ℕ) (i : ℕ) (s : List ℕ) where
  pub part_unused : min (numbered_count numbers) most_avps ≤ i → IsData numbers i s no_part
  unfolding part_at data_start data_length
  part_unused h =
      let k : min (numbered_record numbers).count most_avps ≤ i = rw (count_in numbers) h in
      record {
        is = rw (lies_unused (numbered_record numbers) i (length s) k);
        octets = sym (data_unused (numbered_record numbers) i s k);
      }

  module _ (used : i < min (numbered_count numbers) most_avps) where
    in_record : i < min (numbered_record numbers).count most_avps
    in_record = rw (count_in numbers) used

    module _ (a : Avp) (is : a ≡ numbered_avp numbers i) where
      avp_here : avp_in (numbered_record numbers).avps i ≡ a
      avp_here = avp_in_lem numbers i (omega arith) ∙ sym is

      pub part_outside : length s < a.start + a.length → IsData numbers i s no_part
      unfolding part_at data_start data_length
      part_outside h =
          let k : length s < (avp_in (numbered_record numbers).avps i).start + (avp_in (numbered_record numbers).avps i).length = rw avp_here h in
          record {
            is = rw (lies_outside (numbered_record numbers) i (length s) in_record k);
            octets = sym (data_outside (numbered_record numbers) i s in_record k);
          }

      pub part_inside : a.start + a.length ≤ length s → IsData numbers i s (part a.start a.length)
      unfolding part_at data_start data_length
      part_inside h =
          let k : (avp_in (numbered_record numbers).avps i).start + (avp_in (numbered_record numbers).avps i).length ≤ length s = rw avp_here h in
          record {
            is = rw (lies_inside (numbered_record numbers) i (length s) in_record k, avp_here);
            octets =
                ap (λ (x : Avp). take x.length (drop x.start s)) (sym avp_here)
                ∙ sym (data_inside (numbered_record numbers) i s in_record k);
          }
