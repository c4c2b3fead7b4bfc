-- Lists of write calls (01, The record and the writer): two lists have written the same octets exactly when the
-- meanings of their accepted drafts are the same; the output after the calls is what they wrote and then what was
-- there.
use mathlib.Core.Path.{◌≡◌, refl, sym, ap, ◌∙◌}
use Rattle.std.specs.Prelude.{Err, Ok}
use Rattle.rules.specs.Verdict.{Outcome, no_refusal}
use mathlib.Core.Bool.{true, not}
use mathlib.Core.Logic.{◌↔◌}
use mathlib.Core.List.{List, [], ◌∷◌, ◌++◌, map, append_assoc}
use Prim.Native.Nat.{ℕ, suc, ◌-◌, ◌≤◌}
use native.Mathlib.Omega.{arith}
use borrow.Author.Tests.{ltb-false, not-false, eq-eqb, ne_eqb}
use lib.Dec.{ltb}
use lib.ListN.{length, take, drop, length-append, length-take, length-drop}
use lib.Seq.{take_at, drop_at, drop-drop, take-append_seam, drop-append_seam}
use Rattle.rules.specs.declared.Verdict.{Verdict}
use Rattle.rules.specs.Header.{length_field, longest_command}
use Rattle.rules.specs.Command.{command_outcome}
use Rattle.rules.specs.Meaning.{Meaning, meaning_of}
use Rattle.rules.specs.Wire.{command_octets}
use Rattle.rules.specs.Draft.{Draft, draft_meaning, is_well_formed}
use Rattle.rules.specs.Writer.{draft_octets, own_outcome, draft_outcome, octets_by, octets_written, writing, output_after}
use Rattle.rules.specs.Calls.{front, rest, all_written, output_after_all, if_accepted, accepted_drafts, SameInOrder}
use Rattle.rules.proofs.Outcomes.{both_pass}
use Rattle.rules.proofs.Walk.{never}
use Rattle.rules.proofs.Passed.{not_refused}
use Rattle.rules.proofs.demands.octets.Numbers.{number_front}
use Rattle.rules.proofs.demands.written.Headers.{command_long}
use Rattle.rules.proofs.demands.written.Judged.{by_outcome}
use Rattle.rules.proofs.demands.written.Writing.{head_written}
use Rattle.rules.proofs.demands.written.Drafts.{draft_writable, draft_meaning_lem}
use Rattle.rules.proofs.demands.numbering.Numbering.{draft_number}

-- ---- one call

-- an accepted draft: none of 7006, 7001, 7004, and the reader accepts its octets
pub record AcceptedDraft (d : Draft) (room : ℕ) : Type 0 where
  pub form : is_well_formed d ≡ true
  pub long : length (draft_octets d) ≤ longest_command
  pub fits : length (draft_octets d) ≤ room
  pub pass : command_outcome (draft_octets d) ≡ no_refusal

pub accepted_draft : (d : Draft) (room : ℕ) → draft_outcome d room ≡ no_refusal → AcceptedDraft d room
unfolding draft_outcome own_outcome
accepted_draft d room e =
    let both = both_pass (own_outcome d room) (command_outcome (draft_octets d)) e in
    let form = not_refused (not (is_well_formed d)) _ _ both.0 in
    let long = not_refused (ltb longest_command (length (draft_octets d))) _ _ form.1 in
    let fits = not_refused (ltb room (length (draft_octets d))) _ _ long.1 in
    record {
      form = not-false _ form.0;
      long = ltb-false _ _ long.0;
      fits = ltb-false _ _ fits.0;
      pass = both.1;
    }

-- what is written fits the room
written_fits : (d : Draft) (room : ℕ) (o : Outcome) → draft_outcome d room ≡ o
    → length (octets_by o (draft_octets d)) ≤ room
written_fits d room (Ok u) e = (accepted_draft d room e).fits
written_fits d room (Err v) e = omega arith

pub room_enough : (d : Draft) (room : ℕ) → length (octets_written d room) ≤ room
unfolding octets_written
room_enough d room = written_fits d room (draft_outcome d room) refl

module _ (d : Draft) (out : List ℕ) where
  -- the answer tells how many octets are written
  pub length-told : (writing d out).length ≡ length (octets_written d (length out))
  unfolding writing
  length-told = refl

  output_long : length (output_after d out) ≡ length out
  unfolding output_after
  output_long =
      let w = octets_written d (length out) in
      let l = length-append w (drop (length w) out) in
      omega (arith, length-drop (length w) out, room_enough d (length out))

  -- what the call wrote is as long as the answer says, and what it leaves is the rest of the output
  pub front_long : length (front d out) ≡ (writing d out).length
  front_long = simp length-take (omega (arith, length-told, output_long, room_enough d (length out)))

  rest_long : length (rest d out) ≡ length out - (writing d out).length
  rest_long = omega (arith, length-drop (writing d out).length (output_after d out), output_long)

  -- they are the octets that the writer's rules give, and the output behind them
  pub front_is : front d out ≡ octets_written d (length out)
  unfolding writing output_after
  front_is = take-append_seam (octets_written d (length out)) _

  pub rest_is : rest d out ≡ drop (length (octets_written d (length out))) out
  unfolding writing output_after
  rest_is = drop-append_seam (octets_written d (length out)) _

-- ---- commands end to end

-- a meaning that its octets give back, with a length field that cuts them off
pub record Readable (m : Meaning) : Type 0 where
  pub back : meaning_of (command_octets m) ≡ m
  pub cut : length_field (command_octets m) ≡ length (command_octets m)

readable : (d : Draft) (room : ℕ) → AcceptedDraft d room → Readable (draft_meaning d)
readable d room a = record {
  back = draft_meaning_lem d a.form a.long a.pass;
  cut = (head_written (draft_meaning d) (draft_writable d a.form a.long)).length-is;
}

abbrev joined : List Meaning → List ℕ
joined [] = []
joined (m ∷ ms) = command_octets m ++ joined ms

abbrev AllReadable : List Meaning → Type 0
AllReadable [] = Unit {0}
AllReadable (m ∷ ms) = Readable m × AllReadable ms

-- the length field of the first command
first_cut : (m : Meaning) (x : List ℕ) → Readable m → length_field (command_octets m ++ x) ≡ length (command_octets m)
first_cut m x r =
    let l = command_long m in
    number_front 3 (command_octets m) x 1 (omega arith) ∙ r.cut

first_some : (m : Meaning) (x : List ℕ) → 20 ≤ length (command_octets m ++ x)
first_some m x =
    let l = command_long m in
    let a = length-append (command_octets m) x in
    omega arith

cut_two : (x y x' y' : List ℕ) → x ++ y ≡ x' ++ y' → length x ≡ length x' → (x ≡ x') × (y ≡ y')
cut_two x y x' y' e l = (
  sym (take_at x y (length x) refl) ∙ ap (take (length x)) e ∙ take_at x' y' (length x) (sym l),
  sym (drop_at x y (length x) refl) ∙ ap (drop (length x)) e ∙ drop_at x' y' (length x) (sym l),
)

joined_same : (ms ns : List Meaning) → AllReadable ms → AllReadable ns → joined ms ≡ joined ns → ms ≡ ns
joined_same [] [] g h e = refl
joined_same [] (n ∷ ns) g h e = absurd (omega (arith, first_some n (joined ns), ap length e))
joined_same (m ∷ ms) [] g h e = absurd (omega (arith, first_some m (joined ms), ap length e))
joined_same (m ∷ ms) (n ∷ ns) g h e =
    let l : length (command_octets m) ≡ length (command_octets n) =
    sym (first_cut m (joined ms) g.0) ∙ ap length_field e ∙ first_cut n (joined ns) h.0 in
    let c = cut_two (command_octets m) (joined ms) (command_octets n) (joined ns) e l in
    let a : m ≡ n = sym g.0.back ∙ ap meaning_of c.0 ∙ h.0.back in
    rw (a, joined_same ms ns g.1 h.1 c.1)

-- ---- lists of calls

-- a draft counts exactly where its call was accepted
module _ (d : Draft) (out : List ℕ) where
  one_accepted : draft_outcome d (length out) ≡ no_refusal → if_accepted d out ≡ d ∷ []
  one_accepted e = rw (eq-eqb (writing d out).verdict.number 0 ((draft_number d out).1 e))

  none_accepted : {v : Verdict} → draft_outcome d (length out) ≡ Err v → if_accepted d out ≡ []
  none_accepted e = rw (ne_eqb (writing d out).verdict.number 0 (λ z. never (sym e ∙ (draft_number d out).0 z)))

-- the octets of the accepted drafts' meanings, end to end, are what was written
abbrev Told : List ℕ → List Meaning → Type 0
Told x ms = (x ≡ joined ms) × AllReadable ms

one_call : (d : Draft) (out x : List ℕ) (ds : List Draft) → Told x (map draft_meaning ds)
    → Told (front d out ++ x) (map draft_meaning (if_accepted d out ++ ds))
unfolding octets_written
one_call d out x ds t =
    by_outcome (draft_outcome d (length out))
    (λ e. rw (one_accepted d out e, front_is d out, e)
    (rw t.0, (readable d (length out) (accepted_draft d (length out) e), t.1)))
    (λ v e. rw (none_accepted d out e, front_is d out, e) t)

calls : (ds : List Draft) (out : List ℕ) → Told (all_written ds out) (map draft_meaning (accepted_drafts ds out))
unfolding all_written accepted_drafts
calls [] out = (refl, tt)
calls (d ∷ ds) out = one_call d out (all_written ds (rest d out)) (accepted_drafts ds (rest d out)) (calls ds (rest d out))

same_in_order : (ds es : List Draft) → map draft_meaning ds ≡ map draft_meaning es → SameInOrder ds es
same_in_order [] [] h = tt
same_in_order [] (e ∷ es) h = let z : ◌≡◌ {A = ℕ} 0 1 = cc in omega arith
same_in_order (d ∷ ds) [] h = let z : ◌≡◌ {A = ℕ} 0 1 = cc in omega arith
same_in_order (d ∷ ds) (e ∷ es) h =
    let t : map draft_meaning ds ≡ map draft_meaning es = cc in
    (cc, same_in_order ds es t)

-- drafts that are the same in order are equally many
equally_many : (ds es : List Draft) → SameInOrder ds es → length ds ≡ length es
equally_many [] [] h = refl
equally_many [] (e ∷ es) h = omega arith
equally_many (d ∷ ds) [] h = omega arith
equally_many (d ∷ ds) (e ∷ es) h = ap suc (equally_many ds es h.1)

in_order_same : (ds es : List Draft) → SameInOrder ds es → map draft_meaning ds ≡ map draft_meaning es
in_order_same [] [] h = refl
in_order_same [] (e ∷ es) h = absurd (omega (arith, equally_many [] (e ∷ es) h))
in_order_same (d ∷ ds) [] h = absurd (omega (arith, equally_many (d ∷ ds) [] h))
in_order_same (d ∷ ds) (e ∷ es) h = rw (h.0, in_order_same ds es h.1)

-- demand 3, the two lists of write calls
pub same_written : (ds es : List Draft) (out out' : List ℕ)
    → (all_written ds out ≡ all_written es out') ↔ SameInOrder (accepted_drafts ds out) (accepted_drafts es out')
same_written ds es out out' =
    let c = calls ds out in
    let k = calls es out' in
    let a = accepted_drafts ds out in
    let b = accepted_drafts es out' in (
      λ e. same_in_order a b (joined_same _ _ c.1 k.1 (sym c.0 ∙ e ∙ k.0)),
      λ h. c.0 ∙ ap joined (in_order_same a b h) ∙ sym k.0,
    )

-- ---- the output after the calls

pub output_is : (ds : List Draft) (out : List ℕ)
    → (output_after_all ds out ≡ all_written ds out ++ drop (length (all_written ds out)) out)
    × (length (output_after_all ds out) ≡ length out)
unfolding all_written output_after_all
output_is [] out = (refl, refl)
output_is (d ∷ ds) out =
    let w = octets_written d (length out) in
    let ih = output_is ds (rest d out) in
    let r = room_enough d (length out) in
    let t = length-told d out in
    let l = rest_long d out in (
      rw (ih.0, front_is d out) (simp (append_assoc, length-append, rest_is d out, drop-drop)),
      rw (front_is d out) (length-append w _ ∙ omega (arith, ih.1)),
    )
