-- Request [2]: total volume beside a direction. Which commands are refused, with place, vendor and code, and that no
-- other request is. The claims stand in rules/specs/Volumes.
use mathlib.Core.Path.{◌≡◌, refl, ap, ◌∙◌}
use Rattle.std.specs.Prelude.{Option, Some, None}
use mathlib.Core.Logic.{◌⊎◌, inl, ⊎_elim}
use mathlib.Core.List.{List}
use Prim.Native.Nat.{ℕ}
use lib.ListN.{length}
use Rattle.rules.specs.declared.Avp.{Avp}
use Rattle.rules.specs.Verdict.{refused, verdict, no_refusal}
use Rattle.rules.specs.Header.{header_outcome}
use Rattle.rules.specs.Avp.{place_of}
use Rattle.rules.specs.Walk.{whole}
use Rattle.rules.specs.RowChecks.{member_fault}
use Rattle.rules.specs.Search.{avp_in, first, FirstAvp, Stands}
use Rattle.rules.specs.Exchange.{require, first_found, direction, volume, not_beside, total_alone, first_request, later_request, by_request_type, request_outcome}
use Rattle.rules.specs.Command.{rules_by, walk_of, command_verdict}
use Rattle.rules.specs.Order.{own_rows, group_rows, exchange}
use Rattle.rules.specs.Volumes.{Has, HasDirection, StandsAlone, RequestOfType, TotalBeside, CompleteFirst, CompleteLater}
use Rattle.rules.proofs.demands.Found.{search_first, search_absent}
use Rattle.rules.proofs.demands.Order.{demand_2_first_fault}

-- a refusal of an AVP that has this name
pub named_fault : (number : ℕ) (a : Avp) {depth vendor code : ℕ} → Stands a depth vendor code
    → member_fault number a ≡ refused number (place_of a) vendor code
named_fault number a n =
    ap (λ (v : ℕ). refused number (place_of a) v a.code) n.vendor_is
    ∙ ap (refused number (place_of a) _) n.code_is

module _ (xs : List Avp) where
  -- ---- what is there is found

  found : {vendor code : ℕ} (h : Has xs vendor code) → first xs vendor code ≡ Some h.0
  found h = (search_first xs _ _ h.0).1 h.1

  required : {vendor code : ℕ} (end : ℕ) → Has xs vendor code → require (first xs) end vendor code ≡ no_refusal
  required end h = rw (found h)

  either_found : (f : Option ℕ) (i : ℕ) → (j : ℕ) × (first_found f (Some i) ≡ Some j)
  either_found (Some j) i = (j, refl)
  either_found None i = (i, refl)

  directed : HasDirection xs → (j : ℕ) × (direction (first xs) ≡ Some j)
  unfolding direction
  directed = ⊎_elim (λ h. (h.0, rw (found h))) (λ h. rw (found h) (either_found (first xs 0 412) h.0))

  volumed : (end : ℕ) → (Has xs 0 421) ⊎ (HasDirection xs) → volume (first xs) end ≡ no_refusal
  unfolding volume
  volumed end =
      ⊎_elim
      (λ h. rw (found h))
      (λ h.
      let d = directed h in
      let e = either_found (first xs 0 421) d.0 in
      rw (d.1, e.1))

  -- ---- the rule

  beside : (i : ℕ) → FirstAvp xs 0 421 i → HasDirection xs → total_alone (first xs) xs ≡ member_fault 5008 (avp_in xs i)
  unfolding total_alone
  beside i t h = rw (found (i, t), (directed h).1)

  none_beside : (f : Option ℕ) → not_beside xs f None ≡ no_refusal
  none_beside (Some i) = refl
  none_beside None = refl

  alone : StandsAlone xs → total_alone (first xs) xs ≡ no_refusal
  unfolding total_alone direction
  alone =
      ⊎_elim
      (λ n. rw ((search_absent xs 0 421).1 n))
      (λ n. rw ((search_absent xs 0 412).1 n.0, (search_absent xs 0 414).1 n.1) (none_beside (first xs 0 421)))

  -- ---- in its place

  module _ (c : List ℕ) where
    by_type : (value : ℕ) → RequestOfType c xs value → exchange c xs ≡ by_request_type (first xs) xs (length c) value
    unfolding rules_by request_outcome
    by_type value r = rw (r.request, found (r.position, r.typed), r.valued)

    module _ (i : ℕ) (b : TotalBeside c xs i) where
      first_refused : first_request (first xs) xs (length c) ≡ member_fault 5008 (avp_in xs i)
      unfolding first_request
      first_refused =
          let end = length c in
          rw (required end b.provider, volumed end (inl (i, b.total)), beside i b.total b.beside)

      -- 02 [2]: "A BTR with 4203 = 0 that has 421 together with 412 or 414 is refused at its 421 [...] 5008, right
      -- after the check that a volume is present and before 4209". Whatever else it has or lacks, once its rows are
      -- met. Carried by demand_2_first_fault (Order) and search_first (Found).
      -- Ruled out: a reader that asks for 4209 first; one that refuses at the direction's place or by its name.
      pub request_2_beside : header_outcome c ≡ no_refusal → walk_of c ≡ whole xs → own_rows c xs ≡ no_refusal → group_rows c xs ≡ no_refusal
          → command_verdict c ≡ verdict 5008 (place_of (avp_in xs i)) 0 421
      request_2_beside h w own groups =
          ((demand_2_first_fault c).lists xs h w).rules _ own groups
          (by_type 0 b.first ∙ first_refused ∙ named_fault 5008 (avp_in xs i) b.total.here)

    -- 02 [2]: no other BTR with 4203 = 0 is refused for its volumes. One that has what the exchange rules ask for
    -- passes them, if its total stands alone.
    -- Carried by search_first and search_absent (Found).
    -- Ruled out: a rule that refuses 412 beside 414; one that counts a total or a direction inside a group.
    pub request_2_first : CompleteFirst c xs → exchange c xs ≡ no_refusal
    unfolding first_request
    request_2_first f =
        let end = length c in
        by_type 0 f.first
        ∙ rw (required end f.provider, volumed end f.volume, alone f.alone, required end f.number)
        (required end f.window)

    -- 02 [2]: the rule is for 4203 = 0 alone. With 4203 = 1 what has 4202, 4208 and 293 passes, whatever its volumes.
    -- Carried by search_first (Found).
    -- Ruled out: the rule for every request; a volume asked for with 4203 = 1.
    pub request_2_later : CompleteLater c xs → exchange c xs ≡ no_refusal
    unfolding later_request
    request_2_later l =
        let end = length c in
        by_type 1 l.later ∙ rw (required end l.reference, required end l.policy) (required end l.host)
