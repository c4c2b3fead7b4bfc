-- The promise of the AVP walk, from what its checks gave.
use mathlib.Core.Path.{◌≡◌, refl, sym, ap, ◌∙◌}
use Rattle.std.specs.Prelude.{Result, Err, Ok}
use mathlib.Core.List.{List}
use Prim.Native.Nat.{ℕ, ◌+◌, ◌<◌}
use native.Mathlib.Nat.{add_assoc, add-zero}
use native.Mathlib.Omega.{arith}
use lib.ListN.{length, length-append}
use Rattle.rules.specs.declared.Avp.{Avp}
use Rattle.rules.specs.declared.Verdict.{Verdict}
use Rattle.rules.specs.declared.Entry.{Entry}
use Rattle.rules.specs.Walk.{Standing, standing, most_avps, deepest, checked, Walked, whole, stopped, avps_of, after, in_group, walk_list, Checked, Fault, Plain, Group}
use Rattle.rules.proofs.Fields.{avp_at_depth}
use Rattle.rules.proofs.Walk.{avps_after, avp_fault, avp_plain, avp_group}
use Rattle.rules.proofs.Passed.{InFrame, group_is, passed_few, plain_framed, group_framed}
use Rattle.walk_log.specs.Log.{Logged, put_avp, put_family, put_all}
use Rattle.walk_log.specs.Families.{logged_from}
use Rattle.walk_log.proofs.Kept.{family_before}
use Rattle.walk_log.proofs.Families.{logged_none, logged_one, logged_group}
use Rattle.walk.specs.declared.Stopped.{Stopped}
use Rattle.walk.specs.declared.check.Passed.{Passed}
use Rattle.walk.specs.declared.standing.Standing as code
use Rattle.walk.specs.Answer.{Walk, stop}
use Rattle.walk.specs.Promise.{standing_of, passed_of, answer_of, met_in, next_after, step_to, step_of, AvpWalked, ListWalked}
use Rattle.walk.proofs.Depths.{group_inside}

pub answer_after : (count : ℕ) (xs : List Avp) (w : Walked) → answer_of count (after xs w) ≡ answer_of (count + length xs) w
answer_after count xs (whole ys) = simp (length-append, add_assoc)
answer_after count xs (stopped ys v) = simp (length-append, add_assoc)

-- what a step tells of the walk that it was made of
pub step_on : (w : Standing) (next : ℕ) (v : code.Standing) (r : Walk) → step_of (Ok v) ≡ step_to w next r
    → (next ≡ v.at) × (Ok v.count ≡ r) × (v.end ≡ w.end) × (v.depth ≡ w.depth)
step_on w next v (Ok c) e =
    let q : standing_of v ≡ standing next w.end w.depth c = cc in (
      sym (ap (λ (x : Standing). x.at) q),
      ap (λ (x : Standing). Ok x.count) q,
      ap (λ (x : Standing). x.end) q,
      ap (λ (x : Standing). x.depth) q,
    )
step_on w next v (Err t) e = let z : ◌≡◌ {A = ℕ} 0 1 = cc in absurd (omega arith)

-- a step to where the code's walk then stands
pub step_is : (w v : code.Standing) {at count next : ℕ} → (v.at ≡ at) × (v.end ≡ w.end) × (v.depth ≡ w.depth) × (v.count ≡ count) → at ≡ next
    → (m : Walk) → m ≡ Ok count → step_of (Ok v) ≡ step_to (standing_of w) next m
step_is w v t e m q = rw q (cc (t.0, t.1, t.2, t.3, e))

pub same_octets : {v : code.Standing} {s : List ℕ} → v.s.now ≡ s → (x : code.Standing) → ◌≡◌ {A = Result code.Standing Stopped} (Ok v) (Ok x) → x.s.now ≡ s
same_octets {v} e x q = let is : v ≡ x = cc in ap (λ (y : code.Standing). y.s.now) (sym is) ∙ e

pub step_stopped : (w : Standing) (next : ℕ) (t : Stopped) (r : Walk) → step_of (Err t) ≡ step_to w next r → Err t ≡ r
step_stopped w next t (Ok c) e = let z : ◌≡◌ {A = ℕ} 0 1 = cc in absurd (omega arith)
step_stopped w next t (Err u) e = cc

-- a walk stands behind the AVPs that it met
met_in_lem : (count : ℕ) (w : Walked) → met_in (answer_of count w) ≡ count + length (avps_of w)
met_in_lem count (whole xs) = refl
met_in_lem count (stopped xs v) = refl

-- a group has room for its members
pub group_level : (dict : List Entry) (s : List ℕ) (w : Standing) {a : Avp} → checked dict s w ≡ Group a → w.depth < deepest
group_level dict s w e =
    let i = group_is dict s w e in
    let d = ap (λ (x : Avp). x.depth) i.1 ∙ avp_at_depth s w.at w.depth in
    rw d at i.2

-- an AVP that passes lies in its list, and there is room for it
module _ (dict : List Entry) (entry : ℕ → ℕ → ℕ) (s : List ℕ) (w : Standing) {p : Passed} where
  passed_as : (c : Checked) → checked dict s w ≡ c → Ok p ≡ passed_of entry c → InFrame s w p.avp × (w.count < most_avps)
  passed_as (Fault v) e q = let z : ◌≡◌ {A = ℕ} 0 1 = cc in absurd (omega arith)
  passed_as (Plain a) e q =
      let same : a ≡ p.avp = cc in
      let few = passed_few dict s w (λ v f. let z : ◌≡◌ {A = ℕ} 0 1 = cc in absurd (omega arith)) in
      (rw (← same) (plain_framed dict s w e), few)
  passed_as (Group a) e q =
      let same : a ≡ p.avp = cc in
      let few = passed_few dict s w (λ v f. let z : ◌≡◌ {A = ℕ} 0 1 = cc in absurd (omega arith)) in
      (rw (← same) (group_framed dict s w e), few)

  pub passed_in : Ok p ≡ passed_of entry (checked dict s w) → InFrame s w p.avp × (w.count < most_avps)
  passed_in = passed_as (checked dict s w) refl

module _ (dict : List Entry) (entry : ℕ → ℕ → ℕ) (s : List ℕ) (w : Standing) (log : List ℕ) where
  -- a refusal: no AVP, whatever the number of steps
  pub fault_walked : (v : Verdict) → checked dict s w ≡ Fault v → AvpWalked dict entry s w log (Err (stop w.count v)) log
  fault_walked v e = record {
    answer = λ n _. rw (avp_fault (walk_list n dict s) dict s w e) (ap (λ (c : ℕ). Err (stop c v)) (sym (add-zero w.count)));
    logged = λ n _. rw (avp_fault (walk_list n dict s) dict s w e, logged_none entry w.count);
    within = λ v q. let z : ◌≡◌ {A = ℕ} 0 1 = cc in absurd (omega arith);
  }

  module _ {a : Avp} (log' : List ℕ) (put : log' ≡ put_avp log w.count a) {number : ℕ} (numbered : number ≡ entry a.vendor a.code) where
    pub plain_walked : checked dict s w ≡ Plain a → (log'' : List ℕ) → log'' ≡ put_family log' w.count number (w.count + 1)
        → (r : Result code.Standing Stopped) → step_of r ≡ step_to w (next_after a) (Ok (w.count + 1)) → ((v : code.Standing) → r ≡ Ok v → v.s.now ≡ s)
        → AvpWalked dict entry s w log r log''
    plain_walked e log'' last r on same =
        let p = plain_framed dict s w e in
        record {
          answer = λ n _. rw (avp_plain (walk_list n dict s) dict s w e, ← p.next) on;
          logged = λ n _.
              rw (avp_plain (walk_list n dict s) dict s w e, logged_one entry w.count a, ← numbered, ← put) last;
          within = λ v q.
              let k = step_on w (next_after a) v (Ok (w.count + 1)) (rw q at on) in
              (same v q, omega arith, k.2, k.3);
        }

    pub group_walked : checked dict s w ≡ Group a → (m : Walk) (log'' : List ℕ) → ListWalked dict entry s (in_group w a) log' m log''
        → (log''' : List ℕ) → log''' ≡ put_family log'' w.count number (met_in m)
        → (r : Result code.Standing Stopped) → step_of r ≡ step_to w (next_after a) m → ((v : code.Standing) → r ≡ Ok v → v.s.now ≡ s)
        → AvpWalked dict entry s w log r log'''
    group_walked e m log'' l log''' last r on same =
        let p = group_framed dict s w e in
        record {
          answer = λ n h.
              rw (avp_group (walk_list n dict s) dict s w e, answer_after, ← p.next)
              (on ∙ ap (step_to w (next_after a)) (l.answer n (omega arith)));
          logged = λ n h.
              let walked = walk_list n dict s (in_group w a) in
              let met : met_in m ≡ w.count + 1 + length (avps_of walked) =
              ap met_in (l.answer n (omega arith)) ∙ met_in_lem (w.count + 1) walked in
              let inside = group_inside dict n s w e in
              let ls : List Logged = logged_from entry (w.count + 1) (avps_of walked) in
              rw (avp_group (walk_list n dict s) dict s w e, avps_after, logged_group entry w.count a (avps_of walked) inside)
              (last
              ∙ ap (λ (x : List ℕ). put_family x w.count number (met_in m)) (l.logged n (omega arith))
              ∙ family_before ls log' w.count (w.count + 1) number (met_in m) (omega arith)
              ∙ ap (λ (x : List ℕ). put_all (put_family x w.count number (met_in m)) (w.count + 1) ls) put
              ∙ ap (λ (x : ℕ). put_all (put_family (put_avp log w.count a) w.count x (met_in m)) (w.count + 1) ls) numbered
              ∙ ap (λ (x : ℕ). put_all (put_family (put_avp log w.count a) w.count (entry a.vendor a.code) x) (w.count + 1) ls) met);
          within = λ v q.
              let k = step_on w (next_after a) v m (rw q at on) in
              (same v q, omega arith, k.2, k.3);
        }
