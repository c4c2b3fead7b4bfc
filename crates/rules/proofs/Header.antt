-- Laws of the header's checks, case by case, and what a header that passes tells.
use mathlib.Core.Path.{◌≡◌, sym, ◌∙◌}
use mathlib.Core.Bool.{true, false, not, ◌&&◌, ◌||◌, and-true}
use mathlib.Core.List.{List}
use Prim.Native.Nat.{ℕ, ◌%◌, ◌≤◌, ◌<◌}
use native.Mathlib.Omega.{arith}
use borrow.Author.Tests.{lt-ltb, le-ltb, eq-eqb, ne_eqb, ltb-true, ltb-false, eqb-true, not-false}
use lib.Dec.{ltb, eqb}
use lib.ListN.{length}
use Rattle.rules.specs.Verdict.{refused, or_else, no_refusal}
use Rattle.rules.specs.Header.{header_size, version, length_field, command_code, application, is_request, is_proxiable, is_error, length_outcome, application_outcome, flags_outcome, header_outcome, command_flags, application_nt, code_background_data_transfer, longest_command}
use Rattle.rules.proofs.Outcomes.{both_pass}
use Rattle.rules.proofs.Tests.{neither}
use Rattle.rules.proofs.Walk.{by_cases, never}
use Rattle.rules.proofs.Passed.{not_refused}

module _ (s : List ℕ) where
  pub length-few : length s < 20 → length_outcome s ≡ refused 5015 0 0 0
  unfolding length_outcome
  length-few h = rw (lt-ltb (length s) 20 h)

  -- what passes has the twenty octets of a header
  pub length-enough : length_outcome s ≡ no_refusal → 20 ≤ length s
  length-enough e = by_cases (ltb (length s) 20) (λ h. never (sym (length-few (ltb-true _ _ h)) ∙ e)) (λ h. ltb-false _ _ h)

  module _ (enough : 20 ≤ length s) where
    pub length-version : (version s ≡ 1 → ⊥) → length_outcome s ≡ refused 5011 0 0 0
    unfolding length_outcome
    length-version h = rw (le-ltb (length s) 20 enough, ne_eqb (version s) 1 h)

    module _ (right : version s ≡ 1) where
      pub length-under : length_field s < 20 → length_outcome s ≡ refused 5015 1 0 0
      unfolding length_outcome
      length-under h = rw (le-ltb (length s) 20 enough, eq-eqb (version s) 1 right, lt-ltb (length_field s) 20 h)

      module _ (least : 20 ≤ length_field s) where
        pub length-multiple : (length_field s % 4 ≡ 0 → ⊥) → length_outcome s ≡ refused 5015 1 0 0
        unfolding length_outcome
        length-multiple h =
            rw (le-ltb (length s) 20 enough, eq-eqb (version s) 1 right, le-ltb (length_field s) 20 least, ne_eqb (length_field s % 4) 0 h)

        module _ (four : length_field s % 4 ≡ 0) where
          pub length-other : (length_field s ≡ length s → ⊥) → length_outcome s ≡ refused 5015 1 0 0
          unfolding length_outcome
          length-other h =
              rw (le-ltb (length s) 20 enough, eq-eqb (version s) 1 right, le-ltb (length_field s) 20 least, eq-eqb (length_field s % 4) 0 four, ne_eqb (length_field s) (length s) h)

          module _ (same : length_field s ≡ length s) where
            pub length-long : 16384 < length_field s → length_outcome s ≡ refused 7001 1 0 0
            unfolding length_outcome
            length-long h =
                rw (le-ltb (length s) 20 enough, eq-eqb (version s) 1 right, le-ltb (length_field s) 20 least, eq-eqb (length_field s % 4) 0 four, eq-eqb (length_field s) (length s) same, lt-ltb 16384 (length_field s) h)

            pub length-pass : length_field s ≤ 16384 → length_outcome s ≡ no_refusal
            unfolding length_outcome
            length-pass h =
                rw (le-ltb (length s) 20 enough, eq-eqb (version s) 1 right, le-ltb (length_field s) 20 least, eq-eqb (length_field s % 4) 0 four, eq-eqb (length_field s) (length s) same, le-ltb 16384 (length_field s) h)

module _ (s : List ℕ) where
  pub application_other : (application s ≡ 16777348 → ⊥) → application_outcome s ≡ refused 3007 8 0 0
  unfolding application_outcome
  application_other h = rw (ne_eqb (application s) 16777348 h)

  module _ (nt : application s ≡ 16777348) where
    pub code_other : (command_code s ≡ 8388723 → ⊥) → application_outcome s ≡ refused 3001 5 0 0
    unfolding application_outcome
    code_other h = rw (eq-eqb (application s) 16777348 nt, ne_eqb (command_code s) 8388723 h)

    pub application_pass : command_code s ≡ 8388723 → application_outcome s ≡ no_refusal
    unfolding application_outcome
    application_pass h = rw (eq-eqb (application s) 16777348 nt, eq-eqb (command_code s) 8388723 h)

module _ (flags : ℕ) where
  pub flags_error_request : (is_request flags && is_error flags) ≡ true → flags_outcome flags ≡ refused 3008 4 0 0
  unfolding flags_outcome
  flags_error_request h = rw h

  module _ (one : (is_request flags && is_error flags) ≡ false) where
    pub flags_proxiable : is_proxiable flags ≡ true → flags_outcome flags ≡ no_refusal
    unfolding flags_outcome
    flags_proxiable h = rw (one, h)

    module _ (clear : is_proxiable flags ≡ false) where
      pub flags_error_answer : is_error flags ≡ true → flags_outcome flags ≡ no_refusal
      unfolding flags_outcome
      flags_error_answer h =
          let answer : is_request flags ≡ false = sym (and-true (is_request flags)) ∙ rw h at one in
          rw (h, answer, clear)

      pub flags_not_proxiable : is_error flags ≡ false → flags_outcome flags ≡ refused 3008 4 0 0
      unfolding flags_outcome
      flags_not_proxiable h = rw (one, clear, h)

-- ---- what a header that passes tells

pub record Headed (c : List ℕ) : Type 0 where
  pub enough : 20 ≤ length c
  pub version_is : version c ≡ 1
  pub field_is : length_field c ≡ length c
  pub four : length_field c % 4 ≡ 0
  pub within : length c ≤ 16384
  pub application_is : application c ≡ application_nt
  pub code_is : command_code c ≡ code_background_data_transfer
  pub flags_pass : flags_outcome (command_flags c) ≡ no_refusal

pub headed : (c : List ℕ) → header_outcome c ≡ no_refusal → Headed c
unfolding header_outcome length_outcome application_outcome
headed c e =
    let a = both_pass (length_outcome c) (or_else (application_outcome c) (flags_outcome (command_flags c))) e in
    let b = both_pass (application_outcome c) (flags_outcome (command_flags c)) a.1 in
    let enough = not_refused (ltb (length c) header_size) _ _ a.0 in
    let one = not_refused (not (eqb (version c) 1)) _ _ enough.1 in
    let size = length_field c in
    let few = ltb size header_size in
    let uneven = not (eqb (size % 4) 0) in
    let unequal = not (eqb size (length c)) in
    let field = not_refused (few || uneven || unequal) _ _ one.1 in
    let long = not_refused (ltb longest_command size) _ _ field.1 in
    let nt = not_refused (not (eqb (application c) application_nt)) _ _ b.0 in
    let code = not_refused (not (eqb (command_code c) code_background_data_transfer)) _ _ nt.1 in
    let whole = neither (few || uneven) unequal field.0 in
    let four = neither few uneven whole.0 in
    let same = eqb-true size (length c) (not-false _ whole.1) in
    record {
      enough = ltb-false _ _ enough.0;
      version_is = eqb-true _ _ (not-false _ one.0);
      field_is = same;
      four = eqb-true _ _ (not-false _ four.1);
      within = omega (arith, ltb-false longest_command size long.0);
      application_is = eqb-true _ _ (not-false _ nt.0);
      code_is = eqb-true _ _ (not-false _ code.0);
      flags_pass = b.1;
    }
