-- A command in its canonical form: what the answer of a call tells, the form of an accepted command, and that a call
-- for it answers and leaves what the writer does for the command's own record over its octets.
use mathlib.Core.Path.{◌≡◌, refl, sym, ap, ◌∙◌}
use Rattle.std.specs.Prelude.{Err}
use mathlib.Core.Bool.{Bool, true, false, ◌||◌}
use mathlib.Core.List.{List, [], ◌∷◌, ◌++◌}
use Prim.Native.Nat.{ℕ, ◌≤◌}
use native.Mathlib.Omega.{arith}
use borrow.Author.Tests.{le-ltb, ltb-false}
use lib.Dec.{ltb, eqb}
use lib.ListN.{length, drop}
use lib.Seq.{take-append_seam}
use Rattle.rules.specs.declared.Verdict.{Verdict}
use Rattle.rules.specs.declared.Written.{Written}
use Rattle.rules.specs.Verdict.{reader_numbers, writer_only_numbers, writer_numbers, is_among, verdict, refused, refuse_if, or_else, verdict_of, Outcome, no_refusal}
use Rattle.rules.specs.Command.{command_outcome, command_verdict}
use Rattle.rules.specs.Meaning.{meaning_of}
use Rattle.rules.specs.Draft.{own_draft}
use Rattle.rules.specs.Writer.{draft_octets, draft_outcome, octets_by, octets_written, writing, output_after}
use Rattle.rules.specs.Canonical.{canonical_octets, canonical_outcome, canonical_written, canonical, canonical_output, canonical_front}
use Rattle.rules.specs.Octets.{AreOctets}
use Rattle.rules.proofs.Tests.{or_right}
use Rattle.rules.proofs.Walk.{by_cases}
use Rattle.rules.proofs.demands.written.Judged.{by_outcome}
use Rattle.rules.proofs.demands.numbering.Numbering.{command_table, command_number, command_refusal}
use Rattle.rules.proofs.demands.again.RoundTrip.{draft_octets_lem, draft_outcome_lem, written_accepted, written_means, written_long}

-- ---- what an answer tells

-- no refusal of a call has the number 0
room_told : (short : Bool) → (verdict_of (refuse_if short (refused 7004 0 0 0) no_refusal)).number ≡ 0 → short ≡ false
room_told true z = absurd (omega arith)
room_told false z = refl

module _ (c out : List ℕ) where
  -- a refused call writes nothing
  module _ (v : Verdict) (no : canonical_outcome c (length out) ≡ Err v) where
    none_written : canonical_written c (length out) ≡ []
    unfolding canonical_written
    none_written = ap (λ (o : Outcome). octets_by o (canonical_octets c)) no

    answer_of_lem : canonical c out ≡ record { verdict = v; length = 0 }
    unfolding canonical
    answer_of_lem = rw (no, none_written)

    output_of : canonical_output c out ≡ out
    unfolding canonical_output
    output_of = ap (λ (l : List ℕ). l ++ drop (length l) out) none_written

  -- a call for a refused command has the reader's refusal
  module _ (v : Verdict) (no : command_outcome c ≡ Err v) where
    read_refused : canonical_outcome c (length out) ≡ Err v
    unfolding canonical_outcome
    read_refused =
        ap
        (λ (o : Outcome). or_else o (refuse_if (ltb (length out) (length (canonical_octets c))) (refused 7004 0 0 0) no_refusal))
        no

    number_of : (canonical c out).verdict.number ≡ v.number
    number_of = ap (λ (w : Written). w.verdict.number) (answer_of_lem v read_refused)

    answer_reads : canonical c out ≡ record { verdict = command_verdict c; length = 0 }
    unfolding command_verdict
    answer_reads = answer_of_lem v read_refused ∙ rw no

  module _ (n : (command_verdict c).number ≡ 0 → ⊥) where
    pub refused_answer : canonical c out ≡ record { verdict = command_verdict c; length = 0 }
    refused_answer = by_outcome (command_outcome c) (λ e. absurd (n ((command_number c).1 e))) answer_reads

    pub refused_output : canonical_output c out ≡ out
    refused_output =
        by_outcome (command_outcome c) (λ e. absurd (n ((command_number c).1 e))) (λ v no. output_of v (read_refused v no))

  -- whatever the refusal is, the output is as it was, and the answer says so
  module _ (n : (canonical c out).verdict.number ≡ 0 → ⊥) where
    number_zero : canonical_outcome c (length out) ≡ no_refusal → (canonical c out).verdict.number ≡ 0
    unfolding canonical
    number_zero e = ap (λ (o : Outcome). (verdict_of o).number) e

    pub nothing_left : canonical_output c out ≡ out
    nothing_left = by_outcome (canonical_outcome c (length out)) (λ e. absurd (n (number_zero e))) output_of

    pub nothing_told : (canonical c out).length ≡ 0
    nothing_told =
        by_outcome (canonical_outcome c (length out)) (λ e. absurd (n (number_zero e)))
        (λ v no. ap (λ (w : Written). w.length) (answer_of_lem v no))

    -- a refused call for an accepted command: the output is too short
    pub short_answer : command_outcome c ≡ no_refusal → canonical c out ≡ record { verdict = verdict 7004 0 0 0; length = 0 }
    unfolding canonical_outcome
    short_answer pass =
        by_cases (ltb (length out) (length (canonical_octets c)))
        (λ h. answer_of_lem (verdict 7004 0 0 0) (rw (pass, h)))
        (λ h. absurd (n (number_zero (rw (pass, h)))))

  module _ (z : (canonical c out).verdict.number ≡ 0) where
    -- a call that is accepted is one for an accepted command
    pub accepted_command : command_outcome c ≡ no_refusal
    accepted_command =
        by_outcome (command_outcome c) (λ e. e) (λ v no. absurd (command_refusal c v no (sym (number_of v no) ∙ z)))

    -- with room for its form
    not_short : ltb (length out) (length (canonical_octets c)) ≡ false
    unfolding canonical canonical_outcome
    not_short = room_told _ (rw accepted_command at z)

    form_written : canonical_written c (length out) ≡ canonical_octets c
    unfolding canonical_written canonical_outcome
    form_written = rw (accepted_command, not_short)

    -- and wrote that form
    pub front_form : canonical_front c out ≡ canonical_octets c
    unfolding canonical canonical_output
    front_form = take-append_seam (canonical_written c (length out)) _ ∙ form_written

-- ---- the number of a call

-- a test before others holds, or the last of them
put_between : (a b d e : Bool) → (a || e) ≡ true → (a || (b || (d || e))) ≡ true
put_between true b d e h = refl
put_between false b d e h = or_right b _ (or_right d e h)

-- the reader's number is one of the writer's table
reader_in_table : (c : List ℕ) → is_among (0 ∷ writer_numbers) (command_verdict c).number ≡ true
unfolding writer_only_numbers
reader_in_table c =
    let n = (command_verdict c).number in
    put_between (eqb n 0) (eqb n 7004) (eqb n 7006) (is_among reader_numbers n) (command_table c)

room_in_table : (short : Bool)
    → is_among (0 ∷ writer_numbers) (verdict_of (refuse_if short (refused 7004 0 0 0) no_refusal)).number ≡ true
unfolding writer_only_numbers reader_numbers
room_in_table true = refl
room_in_table false = refl

-- a call's number is 0 or one of that table
pub call_table : (c out : List ℕ) → is_among (0 ∷ writer_numbers) (canonical c out).verdict.number ≡ true
unfolding canonical canonical_outcome command_verdict
call_table c out =
    by_outcome (command_outcome c) (λ pass. rw pass (room_in_table (ltb (length out) (length (canonical_octets c)))))
    (λ v no. rw no (rw no at (reader_in_table c)))

-- ---- the form itself

module _ (c : List ℕ) (oct : AreOctets c) (pass : command_outcome c ≡ no_refusal) where
  form_is : draft_octets (own_draft c) ≡ canonical_octets c
  unfolding canonical_octets
  form_is = draft_octets_lem c oct pass

  pub form_accepted : command_outcome (canonical_octets c) ≡ no_refusal
  form_accepted = ap command_outcome (sym form_is) ∙ written_accepted c oct pass

  pub form_means : meaning_of (canonical_octets c) ≡ meaning_of c
  form_means = ap meaning_of (sym form_is) ∙ written_means c oct pass

  pub form_long : length (canonical_octets c) ≡ length c
  form_long = ap length (sym form_is) ∙ written_long c oct pass

  -- ---- a call for it

  outcome_is : (room : ℕ) → draft_outcome (own_draft c) room ≡ canonical_outcome c room
  unfolding canonical_outcome
  outcome_is room = draft_outcome_lem c oct pass room ∙ rw (pass, form_is)

  written_is : (room : ℕ) → octets_written (own_draft c) room ≡ canonical_written c room
  unfolding octets_written canonical_written
  written_is room = rw (outcome_is room, form_is)

  pub answer_is : (out : List ℕ) → writing (own_draft c) out ≡ canonical c out
  unfolding writing canonical
  answer_is out = rw (outcome_is (length out), written_is (length out))

  pub output_is : (out : List ℕ) → output_after (own_draft c) out ≡ canonical_output c out
  unfolding output_after canonical_output
  output_is out = rw (written_is (length out))

  pub accepted_room : (out : List ℕ) → (canonical c out).verdict.number ≡ 0 → length c ≤ length out
  accepted_room out z =
      let long = form_long in
      omega (arith, ltb-false (length out) (length (canonical_octets c)) (not_short c out z))

  pub room_accepted : (out : List ℕ) → length c ≤ length out → (canonical c out).verdict.number ≡ 0
  unfolding canonical canonical_outcome
  room_accepted out room =
      let long = form_long in
      rw (pass, le-ltb (length out) (length (canonical_octets c)) (omega arith))
