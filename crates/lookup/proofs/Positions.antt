-- Laws of the data of a record's position: whether it lies in a slice, and its octets.
use mathlib.Core.Path.{◌≡◌}
use mathlib.Core.Bool.{true, false}
use mathlib.Core.List.{List, []}
use Prim.Native.Nat.{ℕ, ◌≤◌, ◌<◌, min}
use borrow.Author.Tests.{lt-ltb, le-ltb, le-leb, lt-leb}
use lib.ListN.{length, take, drop}
use Rattle.rules.specs.declared.Record.{Record}
use Rattle.rules.specs.Avp.{end_of}
use Rattle.rules.specs.Search.{avp_in}
use Rattle.rules.specs.Record.{lies_in, data_start, data_length, data_at}

module _ (r : Record) (i : ℕ) (size : ℕ) where
  pub lies_unused : min r.count 256 ≤ i → lies_in r i size ≡ false
  lies_unused h = rw (le-ltb i (min r.count 256) h)

  module _ (used : i < min r.count 256) where
    pub lies_outside : size < end_of (avp_in r.avps i) → lies_in r i size ≡ false
    lies_outside h = rw (lt-ltb i (min r.count 256) used) (lt-leb (end_of (avp_in r.avps i)) size h)

    pub lies_inside : end_of (avp_in r.avps i) ≤ size → lies_in r i size ≡ true
    lies_inside h = rw (lt-ltb i (min r.count 256) used) (le-leb (end_of (avp_in r.avps i)) size h)

module _ (r : Record) (i : ℕ) (s : List ℕ) where
  pub data_unused : min r.count 256 ≤ i → data_at r i s ≡ []
  unfolding data_at data_start data_length
  data_unused h = rw (lies_unused r i (length s) h)

  module _ (used : i < min r.count 256) where
    pub data_outside : length s < end_of (avp_in r.avps i) → data_at r i s ≡ []
    unfolding data_at data_start data_length
    data_outside h = rw (lies_outside r i (length s) used h)

    pub data_inside : end_of (avp_in r.avps i) ≤ length s
        → data_at r i s ≡ take (avp_in r.avps i).length (drop (avp_in r.avps i).start s)
    unfolding data_at data_start data_length
    data_inside h = rw (lies_inside r i (length s) used h)
