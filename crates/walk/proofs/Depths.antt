-- The depths of a walk's AVPs, and where their data ends: they are no deeper than a group's members, and those of a
-- whole walk are a list with its members.
use mathlib.Core.Path.{◌≡◌, refl, ap, ◌∙◌}
use mathlib.Core.List.{List, [], ◌∷◌, ◌++◌}
use Prim.Native.Nat.{ℕ, zero, suc, ◌+◌, ◌≤◌}
use native.Mathlib.Omega.{arith}
use borrow.Author.Tests.{ltb-true, ltb-false}
use lib.Dec.{ltb}
use lib.ListN.{length}
use Rattle.rules.specs.declared.Avp.{Avp}
use Rattle.rules.specs.Avp.{end_of}
use Rattle.rules.specs.declared.Entry.{Entry}
use Rattle.rules.specs.Walk.{Standing, checked, Walked, whole, stopped, avps_of, after, and_then, in_group, behind, walk_avp, walk_list, Checked, Fault, Plain, Group}
use Rattle.rules.proofs.Fields.{avp_at_depth}
use Rattle.rules.proofs.Walk.{by_cases, avps_after, avp_fault, avp_plain, avp_group, list_none, list_end, list_more}
use Rattle.rules.proofs.Passed.{plain_is, group_is, plain_framed, group_framed}
use Rattle.walk_log.specs.Families.{Forest, none, family, flat, Placed, IsForest}
use Rattle.walk_log.proofs.Families.{Floor, Level, Ending, floor-append}

-- ---- depths and ends

-- AVPs no deeper than a depth, whose data ends by a bound
pub record Inside (bound depth : ℕ) (xs : List Avp) : Type 0 where
  pub ends : Ending bound xs
  pub floor : Floor depth xs

ending-append : (b : ℕ) (xs ys : List Avp) → Ending b xs → Ending b ys → Ending b (xs ++ ys)
ending-append b [] ys h k = k
ending-append b (a ∷ xs) ys h k = (h.0, ending-append b xs ys h.1 k)

floor_less : (depth : ℕ) (xs : List Avp) → Floor (depth + 1) xs → Floor depth xs
floor_less depth [] h = tt
floor_less depth (a ∷ xs) h = (omega (arith, h.0), floor_less depth xs h.1)

-- an AVP that passed stands at the walk's depth
module _ (dict : List Entry) (s : List ℕ) (w : Standing) {a : Avp} where
  plain_depth : checked dict s w ≡ Plain a → a.depth ≡ w.depth
  plain_depth e = ap (λ (x : Avp). x.depth) (plain_is dict s w e).1 ∙ avp_at_depth s w.at w.depth

  group_depth : checked dict s w ≡ Group a → a.depth ≡ w.depth
  group_depth e = ap (λ (x : Avp). x.depth) (group_is dict s w e).1 ∙ avp_at_depth s w.at w.depth

module _ (dict : List Entry) (b : ℕ) where
  -- what goes on behind a walk
  then_inside : (depth : ℕ) (w : Walked) (f : ℕ → Walked) → Inside b depth (avps_of w) → ((k : ℕ) → Inside b depth (avps_of (f k)))
      → Inside b depth (avps_of (and_then w f))
  then_inside depth (whole xs) f h k =
      let rest = k (length xs) in
      rw avps_after
      (record {
        ends = ending-append b xs (avps_of (f (length xs))) h.ends rest.ends;
        floor = floor-append depth xs (avps_of (f (length xs))) h.floor rest.floor;
      })
  then_inside depth (stopped xs v) f h k = h

  module _ (list : Standing → Walked) (inner : (w : Standing) → w.end ≤ b → Inside b w.depth (avps_of (list w)))
      (s : List ℕ) (w : Standing) (within : w.end ≤ b) where
    entered_inside : (c : Checked) → checked dict s w ≡ c → Inside b w.depth (avps_of (walk_avp list dict s w))
    entered_inside (Fault v) e = rw (avp_fault list dict s w e) (record { ends = tt; floor = tt })
    entered_inside (Plain a) e =
        let p = plain_framed dict s w e in
        let d = plain_depth dict s w e in
        rw (avp_plain list dict s w e)
        (record { ends = (omega (arith, p.inner), tt); floor = (omega (arith, d), tt) })
    entered_inside (Group a) e =
        let p = group_framed dict s w e in
        let d = group_depth dict s w e in
        let i = inner (in_group w a) (omega (arith, p.inner)) in
        rw (avp_group list dict s w e, avps_after)
        (record {
          ends = (omega (arith, p.inner), i.ends);
          floor = (omega (arith, d), floor_less w.depth (avps_of (list (in_group w a))) i.floor);
        })

  pub list_inside : (n : ℕ) (s : List ℕ) (w : Standing) → w.end ≤ b → Inside b w.depth (avps_of (walk_list n dict s w))
  list_inside zero s w h = rw (list_none dict s w) (record { ends = tt; floor = tt })
  list_inside (suc n) s w h =
      let inner = list_inside n s in
      by_cases (ltb w.at w.end)
      (λ more.
      rw (list_more n dict s w (ltb-true _ _ more))
      (then_inside w.depth (walk_avp (walk_list n dict s) dict s w) (λ k. walk_list n dict s (behind s w k))
      (entered_inside (walk_list n dict s) inner s w h (checked dict s w) refl)
      (λ k. inner (behind s w k) h)))
      (λ past. rw (list_end (suc n) dict s w (ltb-false _ _ past)) (record { ends = tt; floor = tt }))

module _ (dict : List Entry) (n : ℕ) (s : List ℕ) (w : Standing) where
  pub avp_floor : Floor w.depth (avps_of (walk_avp (walk_list n dict s) dict s w))
  avp_floor =
      let i = entered_inside dict w.end (walk_list n dict s) (list_inside dict w.end n s) s w (omega arith) (checked dict s w) refl in
      i.floor

  entered_level : (c : Checked) → checked dict s w ≡ c → Level w.depth (avps_of (walk_avp (walk_list n dict s) dict s w))
  entered_level (Fault v) e = rw (avp_fault (walk_list n dict s) dict s w e) tt
  entered_level (Plain a) e = let d = plain_depth dict s w e in rw (avp_plain (walk_list n dict s) dict s w e) (omega (arith, d))
  entered_level (Group a) e =
      let d = group_depth dict s w e in
      rw (avp_group (walk_list n dict s) dict s w e, avps_after) (omega (arith, d))

  pub avp_level : Level w.depth (avps_of (walk_avp (walk_list n dict s) dict s w))
  avp_level = entered_level (checked dict s w) refl

  -- the members of a group are deeper than it
  pub group_inside : {a : Avp} → checked dict s w ≡ Group a → Floor (a.depth + 1) (avps_of (walk_list n dict s (in_group w a)))
  group_inside {a} e =
      let i = list_inside dict (end_of a) n s (in_group w a) (omega arith) in
      rw (group_depth dict s w e) i.floor

-- ---- a whole walk gives a list with its members

-- an AVP with its members
record IsFamily (depth : ℕ) (xs : List Avp) : Type 0 where
  pub first : Avp
  pub members : Forest
  pub is : xs ≡ first ∷ flat members
  pub level : first.depth ≡ depth
  pub placed : Placed (depth + 1) members

abbrev Grown : ℕ → Walked → Type 0
Grown depth (whole xs) = IsForest depth xs
Grown depth (stopped xs v) = Unit {0}

abbrev GrownOne : ℕ → Walked → Type 0
GrownOne depth (whole xs) = IsFamily depth xs
GrownOne depth (stopped xs v) = Unit {0}

no_avps : (depth : ℕ) → Grown depth (whole [])
no_avps depth = record { forest = none; is = refl; placed = tt }

-- a group, by the walk of its members
group_grown : (depth : ℕ) (a : Avp) → a.depth ≡ depth → (w : Walked) → Grown (depth + 1) w → GrownOne depth (after (a ∷ []) w)
group_grown depth a d (whole xs) g =
    record { first = a; members = g.forest; is = ap (λ (l : List Avp). a ∷ l) g.is; level = d; placed = g.placed }
group_grown depth a d (stopped xs v) g = tt

behind_grown : (depth : ℕ) (xs : List Avp) → IsFamily depth xs → (w : Walked) → Grown depth w → Grown depth (after xs w)
behind_grown depth xs f (whole ys) g = record {
  forest = family f.first f.members g.forest;
  is = ap (λ (l : List Avp). l ++ ys) f.is ∙ ap (λ (l : List Avp). f.first ∷ flat f.members ++ l) g.is;
  placed = (f.level, f.placed, g.placed);
}
behind_grown depth xs f (stopped ys v) g = tt

then_grown : (depth : ℕ) (w : Walked) (f : ℕ → Walked) → GrownOne depth w → ((k : ℕ) → Grown depth (f k)) → Grown depth (and_then w f)
then_grown depth (whole xs) f g k = behind_grown depth xs g (f (length xs)) (k (length xs))
then_grown depth (stopped xs v) f g k = tt

module _ (dict : List Entry) (list : Standing → Walked) (s : List ℕ) (inner : (w : Standing) → Grown w.depth (list w)) (w : Standing) where
  entered_grown : (c : Checked) → checked dict s w ≡ c → GrownOne w.depth (walk_avp list dict s w)
  entered_grown (Fault v) e = rw (avp_fault list dict s w e) tt
  entered_grown (Plain a) e =
      rw (avp_plain list dict s w e)
      (record { first = a; members = none; is = refl; level = plain_depth dict s w e; placed = tt })
  entered_grown (Group a) e =
      rw (avp_group list dict s w e) (group_grown w.depth a (group_depth dict s w e) (list (in_group w a)) (inner (in_group w a)))

pub list_grown : (dict : List Entry) (n : ℕ) (s : List ℕ) (w : Standing) → Grown w.depth (walk_list n dict s w)
list_grown dict zero s w = rw (list_none dict s w) (no_avps w.depth)
list_grown dict (suc n) s w =
    let inner = list_grown dict n s in
    by_cases (ltb w.at w.end)
    (λ more.
    rw (list_more n dict s w (ltb-true _ _ more))
    (then_grown w.depth (walk_avp (walk_list n dict s) dict s w) (λ k. walk_list n dict s (behind s w k))
    (entered_grown dict (walk_list n dict s) s inner w (checked dict s w) refl)
    (λ k. inner (behind s w k))))
    (λ past. rw (list_end (suc n) dict s w (ltb-false _ _ past)) (no_avps w.depth))

pub whole_forest : (depth : ℕ) (w : Walked) (xs : List Avp) → w ≡ whole xs → Grown depth w → IsForest depth xs
whole_forest depth w xs e g = rw e at g
