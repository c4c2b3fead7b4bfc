-- A command's reading, and its record written over its octets, together: what the contracts of the reader and the
-- writer say is the canonical form, by demand 2.
use mathlib.Core.Path.{◌≡◌, sym, ap, ◌∙◌}
use mathlib.Core.List.{List}
use Prim.Native.Nat.{ℕ}
use lib.ListN.{take}
use Rattle.rules.specs.declared.Reading.{Reading}
use Rattle.rules.specs.declared.Written.{Written}
use Rattle.rules.specs.Verdict.{verdict, verdict_of, no_refusal}
use Rattle.rules.specs.Command.{command_outcome, command_verdict}
use Rattle.rules.specs.Record.{reading}
use Rattle.rules.specs.Meaning.{meaning_of}
use Rattle.rules.specs.Calls.{front}
use Rattle.rules.specs.Demands.{AcceptedCommand, Rewritten}
use Rattle.rules.specs.Canonical.{canonical}
use Rattle.rules.specs.Octets.{AreOctets}
use Rattle.rules.specs.Draft.{draft_of, own_draft}
use Rattle.rules.proofs.demands.again.OwnForm.{answer_is, output_is, refused_answer, refused_output, accepted_room}
use Rattle.rules.proofs.demands.Demands.{demand_2_accepted, demand_2_rewrite}
use Rattle.writer.specs.Promise.{IsWritten}
use Rattle.canonical.specs.Promise.{IsCanonical}

-- a verdict with the number 0 has 0 throughout
accepted_verdict : (c : List ℕ) → AcceptedCommand c → command_verdict c ≡ verdict 0 0 0 0
unfolding command_verdict
accepted_verdict c a = ap verdict_of ((demand_2_accepted c).0 a)

module _ (s out : List ℕ) (r : Reading) (is : r ≡ reading s) where
  verdict_is : r.verdict ≡ command_verdict s
  unfolding reading
  verdict_is = ap (λ (x : Reading). x.verdict) is

  number_is : r.verdict.number ≡ (command_verdict s).number
  number_is = rw verdict_is

  -- a refused command
  pub from_refused : (r.verdict.number ≡ 0 → ⊥) → IsCanonical s out (record { verdict = r.verdict; length = 0 }) out
  from_refused n =
      let no : AcceptedCommand s → ⊥ = λ z. n (number_is ∙ z) in
      record {
        answer = ap (λ v. record { verdict = v; length = 0 }) verdict_is ∙ sym (refused_answer s out no);
        left = sym (refused_output s out no);
        accepted = λ z. absurd (n z);
        means = λ z. absurd (n z);
        long = λ z. absurd (n z);
      }

  -- an accepted one, its record written over its octets
  module _ (oct : AreOctets s) (zero : r.verdict.number ≡ 0) (w : Written) (after : List ℕ)
      (written : IsWritten (draft_of r.«record» s) out w after) where
    own : IsWritten (own_draft s) out w after
    own = rw is at written

    command : AcceptedCommand s
    command = sym number_is ∙ zero

    pass : command_outcome s ≡ no_refusal
    pass = (demand_2_accepted s).0 command

    answered : w ≡ canonical s out
    answered = own.answer ∙ answer_is s oct pass out

    again : w.verdict.number ≡ 0 → Rewritten s out
    again z =
        demand_2_rewrite s out oct command
        (accepted_room s oct pass out (ap (λ (x : Written). x.verdict.number) (sym answered) ∙ z))

    front_is : take w.length after ≡ front (own_draft s) out
    front_is = rw (own.answer, own.left)

    pub from_written : IsCanonical s out w after
    from_written =
        record {
          answer = answered;
          left = own.left ∙ output_is s oct pass out;
          accepted = λ z. ap command_verdict front_is ∙ accepted_verdict (front (own_draft s) out) (again z).again;
          means = λ z. ap meaning_of front_is ∙ (again z).means;
          long = λ z. ap (λ (x : Written). x.length) own.answer ∙ (again z).long;
        }
