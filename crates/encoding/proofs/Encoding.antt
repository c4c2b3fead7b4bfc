-- What encoding a draft answers and leaves: the refusals in their order, and the octets put.
use mathlib.Core.Path.{◌≡◌, sym, ap, subst, ◌∙◌}
use mathlib.Core.Bool.{true, false}
use mathlib.Core.List.{List, ◌++◌}
use Prim.Native.Nat.{ℕ, ◌+◌, ◌≤◌, ◌<◌}
use native.Mathlib.Nat.{zero-add}
use native.Mathlib.Omega.{arith}
use borrow.Author.Tests.{lt-ltb, le-ltb}
use lib.ListN.{length, drop}
use lib.Seq.{sets, sets-eq}
use Rattle.std.specs.Prelude.{Result, Ok}
use Rattle.rules.specs.declared.Verdict.{Verdict}
use Rattle.rules.specs.Verdict.{refused, verdict_of, no_refusal}
use Rattle.rules.specs.Header.{header_size, longest_command}
use Rattle.rules.specs.Draft.{Draft, draft_of, draft_meaning, is_well_formed}
use Rattle.rules.specs.Writer.{draft_octets, own_outcome}
use Rattle.rules.proofs.Sizes.{draft_long}
use Rattle.rules.proofs.demands.written.Headers.{command_long}
use Rattle.numbers.specs.Numbers.{numbered_record}
use Rattle.numbers.specs.Draft.{numbered_draft}
use Rattle.numbers.proofs.Draft.{draft_formed}
use Rattle.draft.specs.Promise.{IsCommandSize}
use Rattle.encoding.specs.Encoding.{outcome_of, size_of, encoded_octets, IsEncoded, not_encoded}
use Rattle.encoding.specs.Promise.{numbered_list, numbered_command, CanPutCommand}
use Rattle.encoding.proofs.Whole.{formed_whole}

module _ (d : Draft) (room : ℕ) where
  -- ---- the order of the refusals

  own_7006 : is_well_formed d ≡ false → own_outcome d room ≡ refused 7006 0 0 0
  unfolding own_outcome
  own_7006 e = rw e

  module _ (formed : is_well_formed d ≡ true) where
    own_7001 : longest_command < length (draft_octets d) → own_outcome d room ≡ refused 7001 0 0 0
    unfolding own_outcome
    own_7001 h = rw (formed, lt-ltb longest_command (length (draft_octets d)) h)

    module _ (short : length (draft_octets d) ≤ longest_command) where
      own_7004 : room < length (draft_octets d) → own_outcome d room ≡ refused 7004 0 0 0
      unfolding own_outcome
      own_7004 h =
          rw (formed, le-ltb longest_command (length (draft_octets d)) short, lt-ltb room (length (draft_octets d)) h)

      own_pass : length (draft_octets d) ≤ room → own_outcome d room ≡ no_refusal
      unfolding own_outcome
      own_pass h =
          rw (formed, le-ltb longest_command (length (draft_octets d)) short, le-ltb room (length (draft_octets d)) h)

  -- ---- what is answered and left

  module _ (before : List ℕ) where
    encoded_not : (number : ℕ) → own_outcome d room ≡ refused number 0 0 0
        → (r : Result ℕ Verdict) → r ≡ not_encoded number → IsEncoded d room before r before
    unfolding encoded_octets
    encoded_not number o r e = record {
      outcome = ap outcome_of e ∙ sym o;
      told = ap verdict_of (ap outcome_of e ∙ sym o);
      size = ap size_of e ∙ rw o;
      left = rw o;
    }

    encoded_whole : own_outcome d room ≡ no_refusal → (size : ℕ) → size ≡ length (draft_octets d) → size ≤ length before
        → (after : List ℕ) → after ≡ sets before 0 (draft_octets d)
        → IsEncoded d room before (Ok size) after
    unfolding encoded_octets
    encoded_whole o size z k after a =
        let xs = draft_octets d in
        let fits : 0 + length xs ≤ length before = omega arith in
        record {
          outcome = sym o;
          told = ap verdict_of (sym o);
          size = rw (o, z);
          left = a ∙ sets-eq xs before 0 fits ∙ ap (λ (n : ℕ). xs ++ drop n before) (zero-add (length xs)) ∙ rw o;
        }

    pub refused_7006 : is_well_formed d ≡ false → (r : Result ℕ Verdict) → r ≡ not_encoded 7006 → IsEncoded d room before r before
    refused_7006 f = encoded_not 7006 (own_7006 f)

-- ---- the draft of numbers, well formed

module _ (numbers s : List ℕ) (form : is_well_formed (numbered_draft numbers s) ≡ true) (size : ℕ)
    (is : IsCommandSize numbers size) where
  same : numbered_draft numbers s ≡ draft_of (numbered_record numbers) s
  same = draft_formed numbers s form

  formed : is_well_formed (draft_of (numbered_record numbers) s) ≡ true
  formed = sym (ap is_well_formed same) ∙ form

  list_long : size ≡ header_size + length (numbered_list numbers s)
  list_long = omega (arith, is.is s, draft_long (draft_of (numbered_record numbers) s) formed)

  long : size ≡ length (numbered_command numbers s)
  long = omega (arith, list_long, command_long (draft_meaning (draft_of (numbered_record numbers) s)))

  module _ (room : ℕ) (before : List ℕ) where
    by_record : (r : Result ℕ Verdict) (after : List ℕ) → IsEncoded (draft_of (numbered_record numbers) s) room before r after
        → IsEncoded (numbered_draft numbers s) room before r after
    by_record r after e = subst (λ (d : Draft). IsEncoded d room before r after) (sym same) e

    pub refused_7001 : longest_command < size → (r : Result ℕ Verdict) → r ≡ not_encoded 7001
        → IsEncoded (numbered_draft numbers s) room before r before
    refused_7001 h r e =
        let d = draft_of (numbered_record numbers) s in
        by_record r before (encoded_not d room before 7001 (own_7001 d room formed (omega (arith, long))) r e)

    module _ (short : size ≤ longest_command) where
      pub refused_7004 : room < size → (r : Result ℕ Verdict) → r ≡ not_encoded 7004
          → IsEncoded (numbered_draft numbers s) room before r before
      refused_7004 h r e =
          let d = draft_of (numbered_record numbers) s in
          let o = own_7004 d room formed (omega (arith, long)) (omega (arith, long)) in
          by_record r before (encoded_not d room before 7004 o r e)

      module _ (whole : length before ≡ longest_command) where
        pub can_put : CanPutCommand before numbers s size
        can_put = record {
          all = record {
            whole = formed_whole (draft_of (numbered_record numbers) s) formed;
            room = omega (arith, list_long);
          };
          long = list_long;
        }

        pub put_whole : size ≤ room → (after : List ℕ) → after ≡ sets before 0 (numbered_command numbers s)
            → IsEncoded (numbered_draft numbers s) room before (Ok size) after
        put_whole h after a =
            let d = draft_of (numbered_record numbers) s in
            let o = own_pass d room formed (omega (arith, long)) (omega (arith, long)) in
            by_record _ after (encoded_whole d room before o size long (omega arith) after a)
