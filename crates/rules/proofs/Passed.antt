-- What checks that passed tell: of an AVP its frame, its flags, and that it is the one at its place.
use mathlib.Core.Path.{◌≡◌, refl, sym, ap}
use Rattle.std.specs.Prelude.{Err, Ok}
use mathlib.Core.Bool.{Bool, true, false, cond, not, ◌&&◌, ◌||◌}
use mathlib.Core.List.{List}
use Prim.Native.Nat.{ℕ, ◌+◌, ◌-◌, ◌%◌, ◌≤◌, ◌<◌}
use native.Mathlib.Omega.{arith}
use borrow.Author.Tests.{ltb-false, leb-true, leb-false, eqb-true, not-false}
use lib.Dec.{ltb, eqb}
use Rattle.rules.specs.declared.Avp.{Avp}
use Rattle.rules.specs.declared.Verdict.{Verdict}
use Rattle.rules.specs.Octets.{number_at, padded}
use Rattle.rules.specs.Verdict.{refuse_if, Outcome, no_refusal}
use Rattle.rules.specs.Avp.{flags_at, flag_v, length_at, header_of, next_at, avp_at, end_of}
use Rattle.rules.specs.declared.Entry.{Entry}
use Rattle.rules.specs.Dictionary.{defined, requires_m, is_group, Definition}
use Rattle.rules.specs.Walk.{Standing, most_avps, is_full, framing, wrong_flags, unsupported, wrong_width, wrong_value, too_deep, contents, settled, checked_avp, checked, Checked, Fault, Plain, Group}
use Rattle.rules.proofs.Octets.{padded_least}
use Rattle.rules.proofs.Tests.{neither}
use Rattle.rules.proofs.Fields.{avp_at_start, avp_at_end, header_least, padded_header}
use Rattle.rules.proofs.Walk.{by_cases, never, checked_many}

-- a check that lets pass did not apply
pub not_refused : (b : Bool) (v : Verdict) (o : Outcome) → refuse_if b (Err v) o ≡ no_refusal → (b ≡ false) × (o ≡ no_refusal)
not_refused true v o e = never e
not_refused false v o e = (refl, e)

-- check 2: the bounds of an AVP; header, data and padding lie in the list
pub record Framed (s : List ℕ) (at end : ℕ) : Type 0 where
  pub eight : 8 ≤ header_of (flag_v (flags_at s at))
  pub header : header_of (flag_v (flags_at s at)) ≤ length_at s at
  pub least : length_at s at ≤ padded (length_at s at)
  pub fits : at + padded (length_at s at) ≤ end

pub framed : (s : List ℕ) (at end : ℕ) → framing s at end ≡ no_refusal → Framed s at end
unfolding framing
framed s at end pass =
    let v = flag_v (flags_at s at) in
    let few = not_refused (ltb (end - at) 8) _ _ pass in
    let short = not_refused (v && ltb (end - at) 12) _ _ few.1 in
    let under = not_refused (ltb (length_at s at) (header_of v)) _ _ short.1 in
    let past = not_refused (ltb (end - at) (padded (length_at s at))) _ _ under.1 in
    let left : padded (length_at s at) ≤ end - at = ltb-false _ _ past.0 in
    let eight : 8 ≤ end - at = ltb-false _ _ few.0 in
    record {
      eight = header_least v;
      header = ltb-false _ _ under.0;
      least = padded_least (length_at s at);
      fits = omega arith;
    }

-- checks 3 to 7: none of them applies
pub record Clear (octet : ℕ) (a : Avp) (d : Definition) (n : ℕ) : Type 0 where
  pub flags : wrong_flags octet a d ≡ false
  pub known : unsupported a d ≡ false
  pub width : wrong_width a d ≡ false
  pub value : wrong_value a n ≡ false
  pub level : too_deep a d ≡ false

pub passed : (s : List ℕ) (at : ℕ) (a : Avp) (d : Definition) → contents s at a d ≡ no_refusal
    → Clear (flags_at s at) a d (number_at 4 s a.start)
unfolding contents
passed s at a d e =
    let flags = not_refused (wrong_flags (flags_at s at) a d) _ _ e in
    let known = not_refused (unsupported a d) _ _ flags.1 in
    let width = not_refused (wrong_width a d) _ _ known.1 in
    let value = not_refused (wrong_value a (number_at 4 s a.start)) _ _ width.1 in
    let level = not_refused (too_deep a d) _ _ value.1 in
    record { flags = flags.0; known = known.0; width = width.0; value = value.0; level = level.0 }

-- check 3: no reserved flag, and V only with a vendor
pub right_flags : (flags : ℕ) (a : Avp) (d : Definition) → wrong_flags flags a d ≡ false
    → (flags % 32 ≡ 0) × ((flag_v flags && eqb a.vendor 0) ≡ false)
unfolding wrong_flags
right_flags flags a d e =
    let x = neither (not (eqb (flags % 32) 0) || flag_v flags && eqb a.vendor 0) (requires_m d && not a.m) e in
    let y = neither (not (eqb (flags % 32) 0)) (flag_v flags && eqb a.vendor 0) x.0 in
    (eqb-true _ _ (not-false _ y.0), y.1)

-- a group stands no deeper than 3
contents_level : (s : List ℕ) (at : ℕ) (a : Avp) (d : Definition) → contents s at a d ≡ no_refusal → is_group d ≡ true
    → a.depth < 4
unfolding too_deep
contents_level s at a d e g = leb-false 4 a.depth (rw g at (passed s at a d e).level)

-- ---- the seven checks

no_fault : (o : Outcome) (c x : Checked) → settled o c ≡ x → ((v : Verdict) → x ≡ Fault v → ⊥) → (o ≡ no_refusal) × (c ≡ x)
no_fault (Ok u) c x e n = (refl, e)
no_fault (Err v) c x e n = absurd (n v (sym e))

plain_of : (b : Bool) (a x : Avp) → cond b (Group a) (Plain a) ≡ Plain x → a ≡ x
plain_of true a x e = let z : ◌≡◌ {A = ℕ} 0 1 = cc in absurd (omega arith)
plain_of false a x e = cc

group_of : (b : Bool) (a x : Avp) → cond b (Group a) (Plain a) ≡ Group x → (b ≡ true) × (a ≡ x)
group_of true a x e = (refl, cc)
group_of false a x e = let z : ◌≡◌ {A = ℕ} 0 1 = cc in absurd (omega arith)

module _ (dict : List Entry) (s : List ℕ) (w : Standing) where
  checked_pass : (x : Checked) → checked dict s w ≡ x → ((v : Verdict) → x ≡ Fault v → ⊥)
      → (framing s w.at w.end ≡ no_refusal) × (checked_avp dict s w.at (avp_at s w.at w.depth) ≡ x)
  unfolding checked
  checked_pass x e n =
      by_cases (is_full w)
      (λ f. absurd (n _ (sym (rw f at e))))
      (λ f. no_fault (framing s w.at w.end) (checked_avp dict s w.at (avp_at s w.at w.depth)) x (rw f at e) n)

  -- the record had room for it
  pub passed_few : ((v : Verdict) → checked dict s w ≡ Fault v → ⊥) → w.count < most_avps
  passed_few n =
      by_cases (is_full w)
      (λ f. absurd (n _ (checked_many dict s w (leb-true _ _ f))))
      (λ f. leb-false _ _ f)

  -- a plain AVP is the one at its place
  pub plain_is : {a : Avp} → checked dict s w ≡ Plain a
      → (framing s w.at w.end ≡ no_refusal) × (a ≡ avp_at s w.at w.depth)
  plain_is {a} e =
      let n : (v : Verdict) → Plain a ≡ Fault v → ⊥ = λ v f. let z : ◌≡◌ {A = ℕ} 0 1 = cc in omega arith in
      let f = checked_pass (Plain a) e n in
      let x = avp_at s w.at w.depth in
      let d = defined dict x in
      let c = no_fault (contents s w.at x d) (cond (is_group d) (Group x) (Plain x)) (Plain a) f.1 n in
      (f.0, sym (plain_of (is_group d) x a c.1))

  -- so is a group, and it stands no deeper than 3
  pub group_is : {a : Avp} → checked dict s w ≡ Group a
      → (framing s w.at w.end ≡ no_refusal) × (a ≡ avp_at s w.at w.depth) × (a.depth < 4)
  group_is {a} e =
      let n : (v : Verdict) → Group a ≡ Fault v → ⊥ = λ v f. let z : ◌≡◌ {A = ℕ} 0 1 = cc in omega arith in
      let f = checked_pass (Group a) e n in
      let x = avp_at s w.at w.depth in
      let d = defined dict x in
      let c = no_fault (contents s w.at x d) (cond (is_group d) (Group x) (Plain x)) (Group a) f.1 n in
      let g = group_of (is_group d) x a c.1 in
      let l = contents_level s w.at x d c.0 g.0 in
      (f.0, sym g.1, rw g.1 at l)

-- ---- where an AVP that passes lies

-- header, data and padding are in the list, and the next AVP stands behind them
pub record InFrame (s : List ℕ) (w : Standing) (a : Avp) : Type 0 where
  pub start : w.at + 8 ≤ a.start
  pub inner : end_of a ≤ w.end
  pub next : a.start + padded a.length ≡ next_at s w.at
  pub on : w.at < next_at s w.at
  pub inside : next_at s w.at ≤ w.end

next_after_lem : (s : List ℕ) (at depth : ℕ) → header_of (flag_v (flags_at s at)) ≤ length_at s at
    → (avp_at s at depth).start + padded (avp_at s at depth).length ≡ next_at s at
unfolding avp_at
next_after_lem s at depth h =
    let v = flag_v (flags_at s at) in
    let e : header_of v + (length_at s at - header_of v) ≡ length_at s at = omega arith in
    omega (arith, ap padded e, padded_header v (length_at s at - header_of v))

in_frame : (s : List ℕ) (w : Standing) → framing s w.at w.end ≡ no_refusal → InFrame s w (avp_at s w.at w.depth)
in_frame s w pass =
    let f = framed s w.at w.end pass in
    let begin = avp_at_start s w.at w.depth in
    let stop = avp_at_end s w.at w.depth f.header in
    record {
      start = omega (arith, f);
      inner = omega (arith, f);
      next = next_after_lem s w.at w.depth f.header;
      on = omega (arith, f);
      inside = f.fits;
    }

module _ (dict : List Entry) (s : List ℕ) (w : Standing) where
  pub plain_framed : {a : Avp} → checked dict s w ≡ Plain a → InFrame s w a
  plain_framed e = let i = plain_is dict s w e in rw i.1 (in_frame s w i.0)

  pub group_framed : {a : Avp} → checked dict s w ≡ Group a → InFrame s w a
  group_framed e = let i = group_is dict s w e in rw i.1 (in_frame s w i.0)
