-- The promise of the list walk: what is known at the head of its loop, kept by a turn and used at its ends.
use mathlib.Core.Path.{◌≡◌, refl, sym, ap, ◌∙◌}
use Rattle.std.specs.Prelude.{Err, Ok}
use mathlib.Core.List.{List, [], ◌++◌, append-nil}
use Prim.Native.Nat.{ℕ, zero, suc, ◌+◌, ◌-◌, ◌≤◌, ◌<◌}
use native.Mathlib.Nat.{add-zero}
use native.Mathlib.Omega.{arith}
use lib.ListN.{length, length-append}
use Rattle.rules.specs.declared.Avp.{Avp}
use Rattle.rules.specs.Avp.{next_at}
use Rattle.rules.specs.declared.Entry.{Entry}
use Rattle.rules.specs.Walk.{Standing, standing, Walked, whole, stopped, avps_of, after, and_then, walk_avp, walk_list}
use Rattle.rules.proofs.Walk.{after_nil, after_after, avps_after, list_end, list_more}
use Rattle.walk_log.specs.Log.{put_all}
use Rattle.walk_log.specs.Families.{logged_from}
use Rattle.walk_log.proofs.Kept.{put_all-append}
use Rattle.walk_log.proofs.Families.{Floor, floor-append, length-logged, logged_none, logged-append}
use Rattle.walk.specs.declared.Stopped.{Stopped}
use Rattle.walk.specs.declared.standing.Standing as code
use Rattle.walk.specs.Answer.{stop}
use Rattle.walk.specs.Promise.{standing_of, answer_of, AvpWalked, ListWalked}
use Rattle.walk.proofs.Depths.{avp_floor, avp_level}
use Rattle.walk.proofs.OneAvp.{answer_after, step_on, step_stopped}

-- of the list that starts at `w`: the AVPs so far, and the walk that is left, at `n` steps from its start
pub record Along (dict : List Entry) (entry : ℕ → ℕ → ℕ) (s : List ℕ) (w : Standing) (before : List ℕ) (n at count : ℕ) (log : List ℕ) : Type 0 where
  pub met : List Avp
  pub left : ℕ
  pub enough : w.end - at ≤ left
  pub same : walk_list n dict s w ≡ after met (walk_list left dict s (standing at w.end w.depth count))
  pub counted : count ≡ w.count + length met
  pub logged : log ≡ put_all before w.count (logged_from entry w.count met)
  pub floor : Floor w.depth met

-- what an answer tells of the walk behind it
whole_walk : (count c : ℕ) (v : Walked) → Ok c ≡ answer_of count v → (c ≡ count + length (avps_of v)) × (v ≡ whole (avps_of v))
whole_walk count c (whole xs) e = (cc, refl)
whole_walk count c (stopped xs v) e = let z : ◌≡◌ {A = ℕ} 0 1 = cc in absurd (omega arith)

stopped_walk : (count : ℕ) (t : Stopped) (u : Walked) → Err t ≡ answer_of count u
    → (t.count ≡ count + length (avps_of u)) × (u ≡ stopped (avps_of u) t.verdict)
stopped_walk count t (whole xs) e = let z : ◌≡◌ {A = ℕ} 0 1 = cc in absurd (omega arith)
stopped_walk count t (stopped xs u) e = (cc, cc)

module _ (dict : List Entry) (entry : ℕ → ℕ → ℕ) (s : List ℕ) (w : Standing) (before : List ℕ) where
  along_start : (n : ℕ) → w.end - w.at ≤ n → Along dict entry s w before n w.at w.count before
  along_start n h = record {
    met = [];
    left = n;
    enough = h;
    same = sym (after_nil (walk_list n dict s w));
    counted = sym (add-zero w.count);
    logged = rw (logged_none entry w.count);
    floor = tt;
  }

  -- where the walk of this list stands after a turn
  abbrev here : ℕ → ℕ → Standing
  here at count = standing at w.end w.depth count

  module _ (n at count : ℕ) (log : List ℕ) (more : at < w.end) where
    -- the walk that is left is one AVP and the walk behind it
    one_more : (m : ℕ) (v : Walked) → walk_avp (walk_list m dict s) dict s (here at count) ≡ v
        → walk_list (suc m) dict s (here at count)
        ≡ and_then v (λ k. walk_list m dict s (here (next_at s at) (count + k)))
    one_more m v e =
        list_more m dict s (here at count) more
        ∙ ap (λ (v : Walked). and_then v (λ (k : ℕ). walk_list m dict s (here (next_at s at) (count + k)))) e

    -- the log behind one more AVP
    logged_on : (met : List Avp) (m : ℕ) → Floor w.depth met → count ≡ w.count + length met
        → log ≡ put_all before w.count (logged_from entry w.count met) → (log' : List ℕ)
        → log' ≡ put_all log count (logged_from entry count (avps_of (walk_avp (walk_list m dict s) dict s (here at count))))
        → log' ≡ put_all before w.count (logged_from entry w.count (met ++ avps_of (walk_avp (walk_list m dict s) dict s (here at count))))
    logged_on met m f k l log' e =
        let xs : List Avp = avps_of (walk_avp (walk_list m dict s) dict s (here at count)) in
        e
        ∙ rw (
          logged-append entry w.depth w.count met xs f (avp_level dict m s (here at count)),
          put_all-append,
          length-logged entry w.count met,
          ← l,
          ← k,
        )

    turn_on : (met : List Avp) (left : ℕ) → w.end - at ≤ left
        → walk_list n dict s w ≡ after met (walk_list left dict s (here at count))
        → count ≡ w.count + length met → log ≡ put_all before w.count (logged_from entry w.count met) → Floor w.depth met
        → (t : code.Standing) (log' : List ℕ) → AvpWalked dict entry s (here at count) log (Ok t) log'
        → Along dict entry s w before n t.at t.count log'
    turn_on met zero h e k l f t log' i = absurd (omega arith)
    turn_on met (suc m) h e k l f t log' i =
        let v : Walked = walk_avp (walk_list m dict s) dict s (here at count) in
        let xs : List Avp = avps_of v in
        let o = step_on (here at count) (next_at s at) t (answer_of count v) (i.answer m h) in
        let q : (t.count ≡ count + length xs) × (v ≡ whole xs) = whole_walk count t.count v o.1 in
        let on = i.within t refl in
        let one : walk_list (suc m) dict s (here at count) ≡ after xs (walk_list m dict s (here t.at t.count)) =
        rw (q.0, ← o.0) (one_more m (whole xs) q.1) in
        record {
          met = met ++ xs;
          left = m;
          enough = omega arith;
          same = e ∙ ap (after met) one ∙ after_after met xs (walk_list m dict s (here t.at t.count));
          counted = rw length-append (omega arith);
          logged = logged_on met m f k l log' (i.logged m h);
          floor = floor-append w.depth met xs f (avp_floor dict m s (here at count));
        }

    stop_on : (met : List Avp) (left : ℕ) → w.end - at ≤ left
        → walk_list n dict s w ≡ after met (walk_list left dict s (here at count))
        → count ≡ w.count + length met → log ≡ put_all before w.count (logged_from entry w.count met) → Floor w.depth met
        → (t : Stopped) (log' : List ℕ) → AvpWalked dict entry s (here at count) log (Err t) log'
        → (Err t ≡ answer_of w.count (walk_list n dict s w))
        × (log' ≡ put_all before w.count (logged_from entry w.count (avps_of (walk_list n dict s w))))
    stop_on met zero h e k l f t log' i = absurd (omega arith)
    stop_on met (suc m) h e k l f t log' i =
        let u : Walked = walk_avp (walk_list m dict s) dict s (here at count) in
        let xs : List Avp = avps_of u in
        let q : (t.count ≡ count + length xs) × (u ≡ stopped xs t.verdict) =
        stopped_walk count t u (step_stopped (here at count) (next_at s at) t (answer_of count u) (i.answer m h)) in
        let behind : t.count ≡ w.count + length (met ++ xs) = rw length-append (omega (arith, q.0, k)) in
        let one : walk_list (suc m) dict s (here at count) ≡ stopped xs t.verdict =
        one_more m (stopped xs t.verdict) q.1 in
        (rw (e, one) (ap (λ (n : ℕ). Err (stop n t.verdict)) behind), rw (e, one) (logged_on met m f k l log' (i.logged m h)))

  -- the loop's invariant: the walk stands in this list, behind the AVPs so far
  pub record Turn (v : code.Standing) (log : List ℕ) : Type 0 where
    pub same : v.s.now ≡ s
    pub end : v.end ≡ w.end
    pub depth : v.depth ≡ w.depth
    pub along : (n : ℕ) → w.end - w.at ≤ n → Along dict entry s w before n v.at v.count log

  pub turn_start : (v : code.Standing) → v.s.now ≡ s → standing_of v ≡ w → Turn v before
  turn_start v same is = record {
    same = same;
    end = cc;
    depth = cc;
    along = λ n h. let at : w.at ≡ v.at = cc in let count : w.count ≡ v.count = cc in rw (← at, ← count) (along_start n h);
  }

  module _ (v : code.Standing) (log : List ℕ) (t : Turn v log) where
    stands : standing_of v ≡ here v.at v.count
    stands = cc (t.end, t.depth)

    -- a turn that read an AVP
    pub turn_again : v.at < v.end → (x : code.Standing) (log' : List ℕ) → AvpWalked dict entry v.s.now (standing_of v) log (Ok x) log'
        → Turn x log'
    turn_again more x log' i =
        let on = i.within x refl in
        record {
          same = on.0 ∙ t.same;
          end = on.2 ∙ t.end;
          depth = on.3 ∙ t.depth;
          along = λ n h.
              let y = t.along n h in
              turn_on n v.at v.count log (omega (arith, t.end)) y.met y.left y.enough y.same y.counted y.logged y.floor x log' (rw (t.same, stands) at i);
        }

    -- a turn that stopped at a fault
    pub turn_stopped : v.at < v.end → (x : Stopped) (log' : List ℕ) → AvpWalked dict entry v.s.now (standing_of v) log (Err x) log'
        → ListWalked dict entry s w before (Err x) log'
    turn_stopped more x log' i =
        let ends : (n : ℕ) → w.end - w.at ≤ n
        → (Err x ≡ answer_of w.count (walk_list n dict s w))
        × (log' ≡ put_all before w.count (logged_from entry w.count (avps_of (walk_list n dict s w)))) =
        λ n h.
        let y = t.along n h in
        stop_on n v.at v.count log (omega (arith, t.end)) y.met y.left y.enough y.same y.counted y.logged y.floor x log' (rw (t.same, stands) at i) in
        record {
          answer = λ n h. (ends n h).0;
          logged = λ n h. (ends n h).1;
          within = λ c e. let z : ◌≡◌ {A = ℕ} 0 1 = cc in absurd (omega arith);
        }

    -- the list's end
    pub turn_end : v.end ≤ v.at → ListWalked dict entry s w before (Ok v.count) log
    turn_end past =
        let last : w.end ≤ v.at = omega (arith, t.end) in
        record {
          answer = λ n h.
              let x = t.along n h in
              let e : v.count ≡ w.count + length x.met + 0 = omega (arith, x.counted) in
              rw (x.same, answer_after, list_end x.left dict s (here v.at v.count) last) (cc);
          logged = λ n h.
              let x = t.along n h in
              rw (x.same, avps_after, list_end x.left dict s (here v.at v.count) last, append-nil) x.logged;
          within = λ c e. let q : v.count ≡ c = cc in omega (arith, v.few);
        }
