-- Request [9] of a record: what the search finds among its used positions, and how many there are. It is the search
-- over lists (Found) among the AVPs that are used.
use mathlib.Core.Path.{◌≡◌, sym, ap, ◌∙◌}
use Rattle.std.specs.Prelude.{Some, None}
use mathlib.Core.Logic.{◌↔◌}
use Prim.Native.Nat.{ℕ, ◌≤◌, ◌<◌}
use native.Mathlib.Omega.{arith}
use lib.ListN.{length, take}
use lib.Seq.{length-take-le, get_or-take, take-take}
use Rattle.rules.specs.declared.Record.{Record}
use Rattle.rules.specs.Walk.{most_avps}
use Rattle.rules.specs.Search.{blank, avp_in, how_many}
use Rattle.rules.specs.Record.{recorded, search_record, used, NthRecorded}
use Rattle.rules.proofs.demands.Found.{search_nth, search_none, search_number}

module _ (r : Record) (full : length r.avps ≡ most_avps) (vendor code ordinal : ℕ) where
  many : length (recorded r) ≡ used r
  many = length-take-le (used r) r.avps (omega arith)

  module _ (i : ℕ) (h : i < used r) where
    same : avp_in (recorded r) i ≡ avp_in r.avps i
    same = get_or-take (used r) r.avps i blank h

    before : how_many 1 vendor code (take i (recorded r)) ≡ how_many 1 vendor code (take i r.avps)
    before = ap (how_many 1 vendor code) (take-take i (used r) r.avps (omega arith))

  -- 02 [9]: "the one found has exactly as many of them before it at depth 1 as the ordinal says"; 01: "a count above
  -- 256 as 256".
  -- Carried by search_nth (Found).
  -- Ruled out: a search that passes over the ordinal; one that finds an AVP behind the count.
  pub record_nth : (i : ℕ) → ((search_record r vendor code ordinal).found ≡ Some i) ↔ NthRecorded r vendor code ordinal i
  unfolding search_record
  record_nth i =
      let l = search_nth (recorded r) vendor code ordinal i in (
        λ e.
            let f = l.0 e in
            let w : i < used r = rw many at f.within in
            record { within = w; here = rw (same i w) at f.here; before = sym (before i w) ∙ f.before },
        λ f.
            l.1
            (record {
              within = rw many f.within;
              here = rw (same i f.within) f.here;
              before = before i f.within ∙ f.before;
            }),
      )

-- 02 [9]: "'None' now means exactly that the ordinal is not below that number".
-- Carried by search_none (Found).
-- Ruled out: a search that ends one too early, or one too late.
pub record_none : (r : Record) (vendor code ordinal : ℕ)
    → ((search_record r vendor code ordinal).found ≡ None) ↔ ((search_record r vendor code ordinal).number ≤ ordinal)
unfolding search_record
record_none r vendor code ordinal = search_none (recorded r) vendor code ordinal

-- 02 [9]: "tell how many there are of that vendor and code at depth 1".
-- Carried by search_number (Found).
-- Ruled out: a number that counts unused places, or only those before the one found.
pub record_number : (r : Record) (vendor code ordinal : ℕ)
    → (search_record r vendor code ordinal).number ≡ how_many 1 vendor code (take (used r) r.avps)
unfolding search_record
record_number r vendor code ordinal = search_number (recorded r) vendor code ordinal
