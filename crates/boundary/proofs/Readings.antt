-- What is read of a command as numbers: the record of its AVPs, with a refusal the empty one.
use mathlib.Core.Path.{◌≡◌, refl, sym, ap, ◌∙◌}
use Rattle.std.specs.Prelude.{Err}
use mathlib.Core.List.{List}
use Prim.Native.Nat.{ℕ, ◌≤◌}
use lib.ListN.{length}
use Rattle.rules.specs.declared.Avp.{Avp}
use Rattle.rules.specs.declared.Record.{Record}
use Rattle.rules.specs.declared.Verdict.{Verdict}
use Rattle.rules.specs.Verdict.{verdict, no_refusal}
use Rattle.rules.specs.Walk.{most_avps, avps_of}
use Rattle.rules.specs.Command.{walk_of, command_outcome, command_verdict}
use Rattle.rules.specs.Record.{record_of, empty_record, record_by, reading}
use Rattle.rules.specs.Draft.{draft_of}
use Rattle.walk_log.specs.Log.{avps_in}
use Rattle.walk_log.proofs.Log.{length-avps_in}
use Rattle.reader.proofs.Order.{verdict_accepted, verdict_refused}
use Rattle.numbers.specs.Numbers.{numbers_of, numbered_record}
use Rattle.numbers.specs.Draft.{numbered_draft}
use Rattle.numbers.proofs.Numbers.{room_full, numbers_refused, record_back}
use Rattle.numbers.proofs.Draft.{numbered_draft_lem}
use Rattle.boundary.specs.Parts.{IsRead}

module _ (s : List ℕ) (v : Verdict) (numbers : List ℕ) where
  is_read : v ≡ command_verdict s → (r : Record) → r ≡ record_by s (command_outcome s) → length r.avps ≡ most_avps
      → numbers ≡ numbers_of r → IsRead s v numbers
  unfolding reading
  is_read told r is full put = record {
    verdict = told;
    recorded = put ∙ ap numbers_of is;
    stands = ap numbered_record put ∙ record_back r full ∙ is;
    draft = λ o.
        ap (λ (n : List ℕ). numbered_draft n o) put ∙ numbered_draft_lem r full o ∙ ap (λ (x : Record). draft_of x o) is;
    zero = λ w e. put ∙ ap numbers_of is ∙ numbers_refused s w e;
  }

  -- an accepted command, its AVPs in a log
  pub read_accepted : command_outcome s ≡ no_refusal → v ≡ verdict 0 0 0 0 → (log : List ℕ) (count : ℕ) → count ≤ most_avps
      → avps_in log count ≡ avps_of (walk_of s) → numbers ≡ numbers_of (record_of s (avps_in log count)) → IsRead s v numbers
  unfolding record_of
  read_accepted pass told log count few met put =
      let xs : List Avp = avps_in log count in
      let is : record_of s xs ≡ record_by s (command_outcome s) = ap (record_of s) met ∙ sym (ap (record_by s) pass) in
      let fits : length xs ≤ most_avps = rw (length-avps_in log count few) few in
      is_read (told ∙ verdict_accepted s pass) (record_of s xs) is (room_full xs fits) put

  pub read_refused : command_outcome s ≡ Err v → numbers ≡ numbers_of empty_record → IsRead s v numbers
  unfolding empty_record
  read_refused refused put =
      is_read (verdict_refused s refused) empty_record (sym (ap (record_by s) refused)) refl put
