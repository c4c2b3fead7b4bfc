-- What a write call answers and leaves: the writer's own refusals, and then what the reader says.
use mathlib.Core.Path.{◌≡◌, refl, sym, ap, ◌∙◌}
use Rattle.std.specs.Prelude.{Ok, Err}
use mathlib.Core.List.{List, ◌++◌}
use Prim.Native.Nat.{ℕ, ◌+◌, ◌≤◌}
use native.Mathlib.Nat.{zero-add}
use native.Mathlib.Omega.{arith}
use borrow.Author.Tests.{ltb-false}
use lib.Dec.{ltb}
use lib.ListN.{length, take, drop}
use lib.Seq.{sets, sets-eq, take_at}
use Rattle.rules.specs.declared.Verdict.{Verdict}
use Rattle.rules.specs.Verdict.{or_else, Outcome, no_refusal}
use Rattle.rules.specs.Header.{longest_command}
use Rattle.rules.specs.Command.{command_outcome}
use Rattle.rules.specs.Draft.{Draft, is_well_formed}
use Rattle.rules.specs.Writer.{draft_octets, draft_outcome, octets_written, writing, output_after, own_outcome}
use Rattle.rules.proofs.Walk.{by_cases, never}
use Rattle.encoding.specs.Encoding.{encoded_octets}
use Rattle.writer.specs.Promise.{IsWrittenBy}

-- ---- a draft

module _ (d : Draft) (room : ℕ) where
  -- the writer's own refusals come before the reader's
  outcome_own : draft_outcome d room ≡ or_else (own_outcome d room) (command_outcome (draft_octets d))
  unfolding draft_outcome
  outcome_own = refl

  module _ (own : own_outcome d room ≡ no_refusal) where
    short_and_room : (length (draft_octets d) ≤ longest_command) × (length (draft_octets d) ≤ room)
    unfolding own_outcome
    short_and_room =
        by_cases (is_well_formed d)
        (λ f. by_cases (ltb longest_command (length (draft_octets d)))
        (λ l. never (rw (f, l) at own))
        (λ l. by_cases (ltb room (length (draft_octets d)))
        (λ r. never (rw (f, l, r) at own))
        (λ r. (ltb-false _ _ l, ltb-false _ _ r))))
        (λ f. never (rw f at own))

    octets_own : encoded_octets d room ≡ draft_octets d
    unfolding encoded_octets
    octets_own = rw own

module _ (d : Draft) (out : List ℕ) where
  pub written_refused : {v : Verdict} → own_outcome d (length out) ≡ Err v → IsWrittenBy d out (Err v) out
  unfolding writing octets_written output_after
  written_refused o =
      let e = outcome_own d (length out) ∙ ap (λ (x : Outcome). or_else x (command_outcome (draft_octets d))) o in
      record { written = record { answer = rw e; left = rw e }; short = omega arith }

  -- the command that was encoded, in an array that has room for the longest
  module _ (own : own_outcome d (length out) ≡ no_refusal) (size : ℕ) (is : size ≡ length (encoded_octets d (length out)))
      (blank command : List ℕ) (left : command ≡ encoded_octets d (length out) ++ drop (length (encoded_octets d (length out))) blank) where
    long : size ≡ length (draft_octets d)
    long = is ∙ ap length (octets_own d (length out) own)

    pub size_fits : (size ≤ longest_command) × (size ≤ length out)
    size_fits =
        let fits = short_and_room d (length out) own in
        (omega (arith, long, fits.0), omega (arith, long, fits.1))

    octets_are : take size command ≡ draft_octets d
    octets_are =
        let xs = encoded_octets d (length out) in
        ap (take size) left ∙ take_at xs (drop (length xs) blank) size (sym is) ∙ octets_own d (length out) own

    judged : {o : Outcome} → command_outcome (take size command) ≡ o → draft_outcome d (length out) ≡ o
    judged j =
        outcome_own d (length out)
        ∙ ap (λ (x : Outcome). or_else x (command_outcome (draft_octets d))) own
        ∙ ap command_outcome (sym octets_are)
        ∙ j

    pub judged_refused : {v : Verdict} → command_outcome (take size command) ≡ Err v → IsWrittenBy d out (Err v) out
    unfolding writing octets_written output_after
    judged_refused j =
        let e = judged j in
        record { written = record { answer = rw e; left = rw e }; short = omega arith }

    pub judged_accepted : command_outcome (take size command) ≡ no_refusal
        → (after : List ℕ) → after ≡ sets out 0 (take size command) → IsWrittenBy d out (Ok size) after
    unfolding writing octets_written output_after
    judged_accepted j after a =
        let e = judged j in
        let xs = draft_octets d in
        let fits : 0 + length xs ≤ length out = omega (arith, long, size_fits.1) in
        record {
          written = record {
            answer = rw (e, long);
            left =
                a ∙ ap (sets out 0) octets_are ∙ sets-eq xs out 0 fits ∙ ap (λ (n : ℕ). xs ++ drop n out) (zero-add (length xs))
                ∙ rw e;
          };
          short = size_fits.0;
        }
