-- What is read was written: a walk that ends whole found items that make a list, and its octets are theirs.
use mathlib.Core.Path.{◌≡◌, refl, sym, ap, ◌∙◌}
use Rattle.std.specs.Prelude.{Err, Ok}
use Rattle.rules.specs.Verdict.{Outcome, no_refusal}
use mathlib.Core.Bool.{true, false}
use mathlib.Core.List.{List, [], ◌∷◌, ◌++◌, append_assoc}
use Prim.Native.Nat.{ℕ, zero, suc, ◌+◌, ◌-◌, ◌≤◌, ◌<◌}
use native.Mathlib.Omega.{arith}
use borrow.Author.Tests.{ltb-true, ltb-false, leb-true, leb-false}
use lib.Dec.{ltb, leb}
use lib.ListN.{length, drop}
use Rattle.rules.specs.declared.Avp.{Avp}
use Rattle.rules.specs.Octets.{AreOctets, padded}
use Rattle.rules.specs.Avp.{code_at, length_at, vendor_at, next_at, avp_at}
use Rattle.rules.specs.declared.Entry.{Entry}
use Rattle.rules.specs.Dictionary.{defined, is_group}
use Rattle.rules.specs.Walk.{standing, framing, contents, Walked, whole, stopped, after, and_then, walk_avp, walk_list}
use Rattle.rules.specs.Meaning.{is_read_group}
use Rattle.rules.specs.Wire.{avp_header}
use Rattle.rules.proofs.Octets.{padded_multiple}
use Rattle.rules.proofs.Fields.{avp_at_start, avp_at_end, avp_at_depth}
use Rattle.rules.proofs.Walk.{by_cases, checked_frame, checked_content, checked_group, checked_plain, avp_many, avp_fault, avp_plain, avp_group, list_end, list_more}
use Rattle.rules.proofs.Passed.{framed, group_is}
use Rattle.rules.proofs.demands.items.Items.{Item, octets_of, step, avps_at, Listed}
use Rattle.rules.proofs.demands.items.Sequences.{octets_nil, octets_cons, octets-append, length-cons, length_both, avps_nil, avps_cons, avps-append}
use Rattle.rules.proofs.demands.written.Cells.{never_whole, after_whole}
use Rattle.rules.proofs.demands.items.Lists.{listed_nil, words, list_plain, list_group}
use Rattle.rules.proofs.demands.read.OneItem.{header_at, padding_at, group_at, plain_at, Passing, header_octets, avp_is, group_fit, group_none, group_step, group_next, plain_fit, plain_step, plain_octets}

-- ---- walks that end whole

both_whole : (zs : List Avp) (w : Walked) (f : ℕ → Walked) → and_then w f ≡ whole zs
    → (xs : List Avp) × (w ≡ whole xs) × (after xs (f (length xs)) ≡ whole zs)
both_whole zs (whole xs) f e = (xs, refl, e)
both_whole zs (stopped xs v) f e = never_whole e

-- ---- what a walk found

pub record Found (dict : List Entry) (s : List ℕ) (at end depth : ℕ) (xs : List Avp) : Type 0 where
  pub items : List Item
  pub listed : Listed dict depth items
  pub octets : drop at s ≡ octets_of items ++ drop end s
  pub long : end ≡ at + length (octets_of items)
  pub avps : xs ≡ avps_at at items

found_end : (dict : List Entry) (s : List ℕ) (at end depth : ℕ) (xs : List Avp) → at ≤ end → end ≤ at
    → whole [] ≡ whole xs → Found dict s at end depth xs
found_end dict s at end depth xs h k e =
    let q : at ≡ end = omega arith in
    let z : [] ≡ xs = cc in
    record {
      items = [];
      listed = listed_nil dict depth;
      octets = rw (octets_nil, q);
      long = rw octets_nil (omega arith);
      avps = sym z ∙ sym (avps_nil at);
    }

module _ {dict : List Entry} {s : List ℕ} {at end depth : ℕ} (p : Passing dict s at end depth) (low : 1 ≤ depth)
    (most : depth ≤ 4) (xs ys : List Avp) (behind : Found dict s (next_at s at) end depth ys)
  where
    -- an AVP that is no read group, before what was found behind it
    plain_found : is_read_group dict (vendor_at s at) (code_at s at) ≡ false → xs ≡ avp_at s at depth ∷ ys
        → Found dict s at end depth xs
    plain_found plain e =
        let x = plain_at dict s at depth in
        let on = behind.items in
        let st = plain_step p plain in
        record {
          items = x ∷ on;
          listed = list_plain dict depth low most x (plain_fit p plain) refl on plain behind.listed;
          octets = plain_octets p plain ∙ rw (behind.octets, octets_cons x on) (simp append_assoc);
          long = omega (arith, length-cons x on, behind.long);
          avps = e ∙ rw (behind.avps, avps_cons at x on, st, avp_is p (padding_at s at));
        }

    -- a read group with the members that were found in it
    group_found : (ms : List Avp) → is_read_group dict (vendor_at s at) (code_at s at) ≡ true
        → xs ≡ avp_at s at depth ∷ (ms ++ ys)
        → Found dict s (at + header_at s at) (at + length_at s at) (depth + 1) ms → Found dict s at end depth xs
    group_found ms group e within =
        let x = group_at dict s at depth in
        let ins = within.items in
        let outs = behind.items in
        let header = (framed s at end p.frame).header in
        let size : x.cell.length ≡ length (octets_of ins) = omega (arith, within.long) in
        let even : padded x.cell.length ≡ x.cell.length =
        let w = words dict (depth + 1) ins within.listed in
        padded_multiple x.cell.length w.0 (omega (arith, w.1)) in
        let st = group_step p group even in
        let next = group_next p group even in
        let place : next_at s at ≡ at + step x + length (octets_of ins) = omega arith in
        record {
          items = x ∷ (ins ++ outs);
          listed = list_group dict depth low most x (group_fit p group even) refl ins outs group size
              within.listed behind.listed;
          octets = header_octets p
              ∙ ap (λ (l : List ℕ). avp_header x.cell ++ l)
              (within.octets
              ∙ ap (λ (l : List ℕ). octets_of ins ++ l) (ap (λ (k : ℕ). drop k s) (sym next) ∙ behind.octets))
              ∙ rw (octets_cons x (ins ++ outs), group_none p group even, octets-append ins outs) (simp append_assoc);
          long = omega (arith, length-cons x (ins ++ outs), length_both ins outs, behind.long);
          avps = e
              ∙ rw (
                within.avps,
                behind.avps,
                place,
                avps_cons at x (ins ++ outs),
                avps-append (at + step x) ins outs,
                avp_is p [],
                st,
              );
        }

-- ---- the law, by the steps of the walk

abbrev Sound : List Entry → List ℕ → ℕ → Type 0
Sound dict s n =
    (at end depth count : ℕ) (xs : List Avp) → 1 ≤ depth → depth ≤ 4 → at ≤ end → end ≤ length s → end - at ≤ n
    → walk_list n dict s (standing at end depth count) ≡ whole xs → Found dict s at end depth xs

-- the dictionary's word on the AVP at a place
defined_at : (dict : List Entry) (s : List ℕ) (at depth : ℕ)
    → is_group (defined dict (avp_at s at depth)) ≡ is_read_group dict (vendor_at s at) (code_at s at)
unfolding avp_at
defined_at dict s at depth = refl

-- the first AVP's own walk, and the walk behind it
turn : (dict : List Entry) (s : List ℕ) (n at end depth count : ℕ) (xs : List Avp) → at < end
    → walk_list (suc n) dict s (standing at end depth count) ≡ whole xs
    → (w : Walked) → walk_avp (walk_list n dict s) dict s (standing at end depth count) ≡ w
    → and_then w (λ k. walk_list n dict s (standing (next_at s at) end depth (count + k))) ≡ whole xs
turn dict s n at end depth count xs more e w f =
    ap (λ (v : Walked). and_then v (λ (k : ℕ). walk_list n dict s (standing (next_at s at) end depth (count + k)))) (sym f)
    ∙ sym (list_more n dict s (standing at end depth count) more) ∙ e

module _ (dict : List Entry) (s : List ℕ) (oct : AreOctets s) (n : ℕ) (ih : Sound dict s n)
    (at end depth count : ℕ) (xs : List Avp) (low : 1 ≤ depth) (most : depth ≤ 4) (inside : end ≤ length s)
    (enough : end - at ≤ suc n) (more : at < end) (few : count < 256)
    (e : walk_list (suc n) dict s (standing at end depth count) ≡ whole xs)
  where
    module _ (p : Passing dict s at end depth) where
      -- what is behind the AVP lies in the list, and is shorter
      on : (ys : List Avp) (k : ℕ) → walk_list n dict s (standing (next_at s at) end depth (count + k)) ≡ whole ys
          → Found dict s (next_at s at) end depth ys
      on ys k w =
          let f = framed s at end p.frame in
          ih (next_at s at) end depth (count + k) ys low most f.fits inside (omega (arith, f)) w

      sound_plain : is_group (defined dict (avp_at s at depth)) ≡ false → Found dict s at end depth xs
      sound_plain g =
          let a = avp_at s at depth in
          let c = checked_plain dict s (standing at end depth count) few p.frame a refl (defined dict a) refl p.pass g in
          let w = avp_plain (walk_list n dict s) dict s (standing at end depth count) c in
          let i = after_whole (a ∷ []) xs _ (turn dict s n at end depth count xs more e (whole (a ∷ [])) w) in
          plain_found p low most xs i.0 (on i.0 1 i.1) (sym (defined_at dict s at depth) ∙ g) i.2

      sound_group : is_group (defined dict (avp_at s at depth)) ≡ true → Found dict s at end depth xs
      sound_group g =
          let a = avp_at s at depth in
          let f = framed s at end p.frame in
          let c = checked_group dict s (standing at end depth count) few p.frame a refl (defined dict a) refl p.pass g in
          let level : depth < 4 = rw (avp_at_depth s at depth) at (group_is dict s (standing at end depth count) c).2 in
          let inner = walk_list n dict s (standing a.start (a.start + a.length) (depth + 1) (count + 1)) in
          let w = avp_group (walk_list n dict s) dict s (standing at end depth count) c in
          let b = both_whole xs (after (a ∷ []) inner) _
          (turn dict s n at end depth count xs more e (after (a ∷ []) inner) w) in
          let i = after_whole (a ∷ []) b.0 inner b.1 in
          let j = after_whole b.0 xs _ b.2 in
          let within : walk_list n dict s (standing (at + header_at s at) (at + length_at s at) (depth + 1) (count + 1))
          ≡ whole i.0 =
          ap (λ (k : ℕ). walk_list n dict s (standing k (at + length_at s at) (depth + 1) (count + 1)))
          (sym (avp_at_start s at depth))
          ∙ ap (λ (k : ℕ). walk_list n dict s (standing a.start k (depth + 1) (count + 1))) (sym (avp_at_end s at depth f.header))
          ∙ i.1 in
          group_found p low most xs j.0 (on j.0 (length b.0) j.1) i.0
          (sym (defined_at dict s at depth) ∙ g)
          (j.2 ∙ ap (λ (l : List Avp). l ++ j.0) i.2)
          (ih (at + header_at s at) (at + length_at s at) (depth + 1) (count + 1) i.0
          (omega arith) (omega arith) (omega (arith, f)) (omega (arith, f)) (omega (arith, f)) within)

    sound_contents : framing s at end ≡ no_refusal → (o : Outcome)
        → contents s at (avp_at s at depth) (defined dict (avp_at s at depth)) ≡ o
        → Found dict s at end depth xs
    sound_contents frame (Ok u) pass =
        let p : Passing dict s at end depth = record { octets = oct; inside = inside; frame = frame; pass = pass } in
        by_cases (is_group (defined dict (avp_at s at depth))) (sound_group p) (sound_plain p)
    sound_contents frame (Err v) f =
        let a = avp_at s at depth in
        never_whole
        (turn dict s n at end depth count xs more e (stopped [] v)
        (avp_fault (walk_list n dict s) dict s (standing at end depth count)
        (checked_content dict s (standing at end depth count) few frame a refl (defined dict a) refl f)))

    sound_framing : (o : Outcome) → framing s at end ≡ o → Found dict s at end depth xs
    sound_framing (Ok u) f = sound_contents f (contents s at (avp_at s at depth) (defined dict (avp_at s at depth))) refl
    sound_framing (Err v) f =
        never_whole (turn dict s n at end depth count xs more e (stopped [] v)
        (avp_fault (walk_list n dict s) dict s (standing at end depth count) (checked_frame dict s (standing at end depth count) few f)))

sound_step : (dict : List Entry) (s : List ℕ) (n : ℕ) → AreOctets s → Sound dict s n → Sound dict s (suc n)
sound_step dict s n oct ih at end depth count xs low most order inside enough e =
    by_cases (ltb at end)
    (λ m.
    let more = ltb-true at end m in
    by_cases (leb 256 count)
    (λ f.
    let o = avp_many (walk_list n dict s) dict s (standing at end depth count) (leb-true 256 count f) in
    never_whole (turn dict s n at end depth count xs more e _ o))
    (λ f.
    sound_framing dict s oct n ih at end depth count xs low most inside enough more (leb-false 256 count f) e
    (framing s at end) refl))
    (λ m.
    let past = ltb-false at end m in
    found_end dict s at end depth xs order past (sym (list_end (suc n) dict s (standing at end depth count) past) ∙ e))

-- a walk that ends whole found items that make a list
pub sound : (dict : List Entry) (s : List ℕ) (n : ℕ) → AreOctets s → Sound dict s n
sound dict s zero oct = λ at end depth count xs low most order inside enough e.
    found_end dict s at end depth xs order (omega arith)
    (sym (list_end zero dict s (standing at end depth count) (omega arith)) ∙ e)
sound dict s (suc n) oct = sound_step dict s n oct (sound dict s n oct)
