-- The first positions by entry that are kept while the members of a list are judged, of the command's own list or of a
-- group: for the entry of a name they are what a search for the name among the members gives.
use mathlib.Core.Path.{◌≡◌, refl, sym, ap, ◌∙◌}
use Rattle.std.specs.Prelude.{Option, Some, None}
use mathlib.Core.Bool.{Bool, true, false, cond}
use mathlib.Core.List.{List, [], ◌∷◌, ◌++◌, append_assoc, append-nil}
use Prim.Native.Nat.{ℕ, zero, suc, ◌+◌, ◌-◌, ◌≤◌, ◌<◌, min}
use native.Mathlib.Nat.{add-zero, sub-zero}
use native.Mathlib.Omega.{arith}
use borrow.Author.Tests.{lt-ltb, le-ltb, eq-eqb, ne_eqb, eqb-true, eqb-false}
use lib.Dec.{eqb, ltb}
use lib.ListN.{length, get_or, length-append, length-replicate, get_or-replicate, set}
use lib.Seq.{get_or-set_same, get_or-set_other}
use Rattle.rules.specs.declared.Avp.{Avp}
use Rattle.rules.specs.Avp.{named}
use Rattle.rules.specs.Walk.{most_avps}
use Rattle.rules.specs.Search.{is_at, first_from, first, member, position_of}
use Rattle.rules.specs.Dictionary.{dictionary}
use Rattle.rules.proofs.Searches.{first_above, first_later, first_none, first_next}
use Rattle.dictionary.specs.Entries.{entry_of}
use Rattle.walk_log.specs.Log.{Logged}
use Rattle.walk_log.specs.Families.{Forest, none, family, flat, Placed, IsForest}
use Rattle.walk_log.proofs.Families.{Level}
use Rattle.walk_log.proofs.Forests.{level_rest, Stands, stands_family}
use Rattle.exchange.proofs.Firsts.{within}
use Rattle.lists.specs.Firsts.{no_firsts, noted, firsts_from}
use Rattle.lists.specs.Exchanges.{firsts_at}
use Rattle.lists.proofs.Noted.{length-noted, firsts_none, firsts_on}
use Rattle.lists.proofs.Finds.{known_only, first_within}
use Rattle.lists.proofs.Walked.{FamilyAt}

-- ---- a search among AVPs with their members

module _ (vendor code floor depth : ℕ) (deep : floor ≤ depth) where
  -- AVPs deeper than the depth are passed over
  first_deeper : (f : Forest) (inner i : ℕ) (xs : List Avp) → depth < inner → Placed inner f
      → first_from i floor depth (flat f ++ xs) vendor code ≡ first_from (i + length (flat f)) floor depth xs vendor code
  first_deeper none inner i xs h p = rw (add-zero i)
  first_deeper (family a members rest) inner i xs h p =
      let in_members = first_deeper members (inner + 1) (i + 1) (flat rest ++ xs) (omega arith) p.1 in
      let in_rest = first_deeper rest inner (i + 1 + length (flat members)) xs h p.2 in
      let other : is_at a depth vendor code ≡ false = rw (ne_eqb a.depth depth (λ e. omega (arith, p.0))) in
      let both = length-append (flat members) (flat rest) in
      let last : i + 1 + length (flat members) + length (flat rest) ≡ i + length (flat (family a members rest)) =
      omega arith in
      first_later i floor depth a ((flat members ++ flat rest) ++ xs) vendor code (omega (arith, p.0)) other
      ∙ (rw (append_assoc (flat members) (flat rest) xs, ← last) (in_members ∙ in_rest))

  -- an AVP of the list, or else those of the rest of the list
  first_family : (a : Avp) (members rest : Forest) (i : ℕ) (xs : List Avp) → Placed depth (family a members rest)
      → first_from i floor depth (flat (family a members rest) ++ xs) vendor code
      ≡ cond (named a vendor code) (Some i)
      (first_from (i + 1 + length (flat members)) floor depth (flat rest ++ xs) vendor code)
  first_family a members rest i xs p =
      let in_members = first_deeper members (depth + 1) (i + 1) (flat rest ++ xs) (omega arith) p.1 in
      rw (
        first_next i floor depth a ((flat members ++ flat rest) ++ xs) vendor code,
        le-ltb a.depth floor (omega (arith, p.0)),
        eq-eqb a.depth depth p.0,
        append_assoc (flat members) (flat rest) xs,
        in_members,
      )

-- a list ends before an AVP above it
first_end : (vendor code above i : ℕ) (xs : List Avp) → Level above xs
    → first_from i (above + 1) (above + 1) xs vendor code ≡ None
first_end vendor code above i [] e = first_none i (above + 1) (above + 1) vendor code
first_end vendor code above i (a ∷ xs) e = first_above i (above + 1) (above + 1) a xs vendor code (omega (arith, e))

-- ---- the first positions

-- the first position of a known entry, once a member at position i is noted that has this entry or another one
noted_place : (firsts : List ℕ) (met entry i other : ℕ) (own : Bool) → eqb met entry ≡ own → entry < length firsts
    → entry < length dictionary
    → get_or (noted firsts met i) entry other ≡ cond own (min (get_or firsts entry other) i) (get_or firsts entry other)
unfolding noted
noted_place firsts met entry i other true e h k =
    let p : met ≡ entry = eqb-true met entry e in
    rw (p, lt-ltb entry (length dictionary) k, within firsts entry other 0 h) (get_or-set_same firsts entry _ other h)
noted_place firsts met entry i other false e h k = by_test (ltb met (length dictionary))
  where
    by_test : (b : Bool)
        → get_or (cond b (set firsts met (min (get_or firsts met 0) i)) firsts) entry other ≡ get_or firsts entry other
    by_test true = get_or-set_other firsts met entry _ other (λ p. eqb-false met entry e (sym p))
    by_test false = refl

-- it stays at most the number of places
noted_few : (own : Bool) (before i : ℕ) → before ≤ most_avps → cond own (min before i) before ≤ most_avps
noted_few true before i h = omega arith
noted_few false before i h = h

-- a member at position i, then what a search finds behind it
first_of : (own : Bool) (found : Option ℕ) (before i : ℕ) → i ≤ position_of found
    → min (cond own (min before i) before) (position_of found) ≡ min before (position_of (cond own (Some i) found))
first_of true found before i h = omega arith
first_of false found before i h = refl

-- of a known name; `other` is what would stand where there is no place
module _ (at : ℕ → Logged) (vendor code other : ℕ) (known : entry_of dictionary vendor code < length dictionary) where
  -- the number of its entry
  abbrev own : ℕ
  own = entry_of dictionary vendor code

  -- a list before position `stop`, behind which a search finds nothing
  module _ (above floor : ℕ) (deep : floor ≤ above + 1) (xs : List Avp) (level : Level above xs) (stop : ℕ)
      (end : first_from stop floor (above + 1) xs vendor code ≡ None) (few : stop + length xs ≤ most_avps) where
    -- from position i on, in steps that are enough: the lesser of the first position so far and the position that a
    -- search from i on gives
    firsts_by : (f : Forest) (i n : ℕ) (firsts : List ℕ) → Placed (above + 1) f
        → Stands (entry_of dictionary) at i (flat f ++ xs) → length (flat f) ≤ n → stop ≡ i + length (flat f)
        → own < length firsts → get_or firsts own other ≤ most_avps
        → get_or (firsts_from n at i stop firsts) own other
        ≡ min (get_or firsts own other) (position_of (first_from i floor (above + 1) (flat f ++ xs) vendor code))
    firsts_by none i n firsts p s enough last place below =
        let here : i ≡ stop = omega arith in
        rw (here, firsts_none at stop n stop firsts (omega arith), end) (omega arith)
    firsts_by (family a members rest) i zero firsts p s enough last place below = absurd (omega arith)
    firsts_by (family a members rest) i (suc n) firsts p s enough last place below =
        let here = stands_family (entry_of dictionary) at a members rest above xs i p level s in
        let both = length-append (flat members) (flat rest) in
        let whole = length-append (flat rest) xs in
        let next : ℕ = i + 1 + length (flat members) in
        let met : ℕ = entry_of dictionary a.vendor a.code in
        let same = known_only dictionary vendor code known a.vendor a.code in
        let before : ℕ = get_or firsts own other in
        let found : Option ℕ = first_from next floor (above + 1) (flat rest ++ xs) vendor code in
        let now = noted_place firsts met own i other (named a vendor code) same place known in
        let in_rest =
        firsts_by rest next n (noted firsts met i) p.2 here.behind (omega arith) (omega arith)
        (rw (length-noted firsts met i) place) (rw now (noted_few (named a vendor code) before i below)) in
        let behind = (first_within vendor code (flat rest ++ xs) next floor (above + 1) (omega arith)).0 in
        rw (
          firsts_on at stop n i firsts _ (omega arith) here.first,
          first_family vendor code floor (above + 1) deep a members rest i xs p,
          in_rest,
          now,
        )
        (first_of (named a vendor code) found before i (omega (arith, behind)))

    -- where none was met before, the position that the search gives
    list_positions : (f : Forest) (i : ℕ) → Placed (above + 1) f → Stands (entry_of dictionary) at i (flat f ++ xs)
        → stop ≡ i + length (flat f)
        → get_or (firsts_from (stop - i) at i stop no_firsts) own other
        ≡ position_of (first_from i floor (above + 1) (flat f ++ xs) vendor code)
    list_positions f i p s last =
        let both = length-append (flat f) xs in
        let yet : get_or no_firsts own other ≡ most_avps = get_or-replicate (length dictionary) own most_avps other known in
        let place : own < length no_firsts = rw (length-replicate (length dictionary) most_avps) known in
        let by = firsts_by f i (stop - i) no_firsts p s (omega arith) last place (omega (arith, yet)) in
        let most = (first_within vendor code (flat f ++ xs) i floor (above + 1) (omega arith)).1 in
        (rw yet at by) ∙ (omega (arith, most))

  -- ---- the log of a walk

  -- of the command's own list
  pub first_positions : (xs : List Avp) → IsForest 1 xs → length xs ≤ most_avps → Stands (entry_of dictionary) at 0 xs
      → get_or (firsts_from (length xs) at 0 (length xs) no_firsts) own other ≡ position_of (first xs vendor code)
  first_positions xs f few s =
      let e : xs ≡ flat f.forest ++ [] = f.is ∙ sym (append-nil (flat f.forest)) in
      let n : length xs ≡ length (flat f.forest) = ap (λ (ys : List Avp). length ys) f.is in
      rw (sub-zero (length xs), ← e) at
      (list_positions 0 0 (omega arith) [] tt (length xs) (first_none (length xs) 0 1 vendor code) (omega arith)
      f.forest 0 f.placed (rw e at s) (omega arith))

  -- of the group at a position
  pub member_positions : (ys : List Avp) (a : Avp) (members rest : Forest) (above : ℕ) (xs : List Avp) (i : ℕ)
      → FamilyAt (entry_of dictionary) at ys a members rest above xs i → length ys ≤ most_avps
      → get_or (firsts_at at (length ys) i) own other ≡ position_of (member ys i (a.depth + 1) vendor code)
  member_positions ys a members rest above xs i h few =
      let p = h.placed in
      let level = level_rest rest above xs p.2 h.level in
      let stop : ℕ = i + 1 + length (flat members) in
      let both = length-append (flat members) (flat rest ++ xs) in
      let last : min stop (length ys) ≡ stop = omega (arith, h.all) in
      rw (h.stands.first, last, p.0, h.behind)
      (list_positions (above + 1) (above + 1 + 1) (omega arith) (flat rest ++ xs) level stop
      (first_end vendor code (above + 1) stop (flat rest ++ xs) level) (omega (arith, h.all))
      members (i + 1) p.1 h.stands.inside refl)
