-- What the answers of calls tell: after a refusal the record is empty, or the output as it was; after an acceptance the
-- draft's meaning is written, as many octets as the answer says.
use mathlib.Core.Path.{◌≡◌, refl, sym, ap, ◌∙◌}
use Rattle.std.specs.Prelude.{Err, Ok}
use Rattle.rules.specs.Verdict.{Outcome, no_refusal}
use mathlib.Core.List.{List, [], ◌∷◌}
use Prim.Native.Nat.{ℕ, ◌+◌}
use lib.ListN.{length, length-append}
use Rattle.rules.specs.Command.{command_outcome, command_verdict}
use Rattle.rules.specs.Record.{empty_record, record_by, reading}
use Rattle.rules.specs.Meaning.{meaning_of}
use Rattle.rules.specs.Draft.{Draft, draft_meaning}
use Rattle.rules.specs.Writer.{draft_octets, draft_outcome, octets_by, octets_written, writing, output_after}
use Rattle.rules.specs.Calls.{front, rest, all_written, told_length}
use Rattle.rules.proofs.demands.written.Drafts.{draft_meaning_lem}
use Rattle.rules.proofs.demands.calls.Calls.{length-told, front_long, front_is, accepted_draft}
use Rattle.rules.proofs.demands.numbering.Numbering.{command_number, draft_number}

-- ---- refusals

record_refused : (s : List ℕ) (o : Outcome) → (o ≡ no_refusal → ⊥) → record_by s o ≡ empty_record
record_refused s (Ok u) n = absurd (n refl)
record_refused s (Err v) n = refl

-- a refused command's record
pub empty_read : (s : List ℕ) → ((command_verdict s).number ≡ 0 → ⊥) → (reading s).«record» ≡ empty_record
unfolding reading
empty_read s n = record_refused s (command_outcome s) (λ e. n ((command_number s).1 e))

none_by : (o : Outcome) (s : List ℕ) → (o ≡ no_refusal → ⊥) → octets_by o s ≡ []
none_by (Ok u) s n = absurd (n refl)
none_by (Err v) s n = refl

-- a refused call writes nothing
pub none_written : (d : Draft) (out : List ℕ) → ((writing d out).verdict.number ≡ 0 → ⊥)
    → octets_written d (length out) ≡ []
unfolding octets_written
none_written d out n = none_by (draft_outcome d (length out)) (draft_octets d) (λ e. n ((draft_number d out).1 e))

module _ (d : Draft) (out : List ℕ) where
  module _ (none : octets_written d (length out) ≡ []) where
    pub unaltered : output_after d out ≡ out
    unfolding output_after
    unaltered = rw none

    pub nothing_told : (writing d out).length ≡ 0
    nothing_told = length-told d out ∙ ap length none

    pub same_part : rest d out ≡ out
    same_part = rw (nothing_told, unaltered)

-- ---- acceptances

module _ (d : Draft) (out : List ℕ) (zero : (writing d out).verdict.number ≡ 0) where
  passed : draft_outcome d (length out) ≡ no_refusal
  passed = (draft_number d out).0 zero

  -- an accepted call writes its draft's octets
  front_octets : front d out ≡ draft_octets d
  unfolding octets_written
  front_octets = front_is d out ∙ rw passed

  pub front_accepted : (command_verdict (front d out)).number ≡ 0
  front_accepted = (command_number (front d out)).1 (rw front_octets (accepted_draft d (length out) passed).pass)

  -- and they have the draft's meaning
  pub front_means : meaning_of (front d out) ≡ draft_meaning d
  front_means =
      let a = accepted_draft d (length out) passed in
      ap meaning_of front_octets ∙ draft_meaning_lem d a.form a.long a.pass

-- ---- lists of calls

pub written_told : (ds : List Draft) (out : List ℕ) → told_length ds out ≡ length (all_written ds out)
unfolding told_length all_written
written_told [] out = refl
written_told (d ∷ ds) out =
    ap (λ (k : ℕ). k + told_length ds (rest d out)) (sym (front_long d out))
    ∙ ap (λ (k : ℕ). length (front d out) + k) (written_told ds (rest d out))
    ∙ sym (length-append (front d out) (all_written ds (rest d out)))
