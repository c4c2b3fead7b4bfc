-- The number that comes back is 0 or one of the table: the reader's, and for a draft those of the writer too. The table
-- lacks 0 but for acceptance, so the number is 0 exactly when the command, or the draft, is accepted. The reader's
-- place, vendor and code go with the number.
use mathlib.Core.Path.{◌≡◌, refl, sym, ap, ◌∙◌}
use Rattle.std.specs.Prelude.{Err, Ok}
use mathlib.Core.Bool.{Bool, true, false, not, ◌&&◌, ◌||◌}
use mathlib.Core.List.{List, ◌∷◌}
use mathlib.Core.Logic.{◌↔◌}
use Prim.Native.Nat.{ℕ, ◌≤◌}
use native.Mathlib.Omega.{arith}
use borrow.Author.Tests.{lt-ltb, ltb-true, eq-eqb, ne_eqb}
use lib.Dec.{ltb, eqb}
use lib.ListN.{length}
use Rattle.rules.specs.declared.Verdict.{Verdict}
use Rattle.rules.specs.Verdict.{reader_numbers, writer_only_numbers, writer_numbers, is_among, verdict_of, Outcome, no_refusal}
use Rattle.rules.specs.Header.{header_outcome, longest_command}
use Rattle.rules.specs.Dictionary.{dictionary}
use Rattle.rules.specs.Walk.{Walked, whole, stopped, stop_of}
use Rattle.rules.specs.Command.{command_rules, own_list, walk_of, lists_outcome, walked_outcome, command_outcome, command_verdict}
use Rattle.rules.specs.Draft.{Draft}
use Rattle.rules.specs.Writer.{draft_octets, own_outcome, draft_outcome, writing}
use Rattle.rules.specs.Order.{fits_table}
use Rattle.rules.proofs.Tests.{and_true, or_right}
use Rattle.rules.proofs.Walk.{never}
use Rattle.rules.proofs.demands.items.Lists.{not_both}
use Rattle.rules.proofs.demands.numbering.Refusals.{meets, HeaderRefusals, AvpRefusals, either, both, in_turn, header_meets, walk_meets}
use Rattle.rules.proofs.demands.numbering.ListRefusals.{rows_meets, exchange_meets}

-- ---- a test that holds of each refusal of the reader holds of the one that a command gets

module _ (s : List ℕ) (t : Verdict → Bool) (h : HeaderRefusals s t) (r : AvpRefusals t) where
  lists_meet : (w : Walked) → meets t (stop_of w) ≡ true → meets t (walked_outcome s w) ≡ true
  unfolding lists_outcome
  lists_meet (whole xs) e =
      in_turn t _ _ (rows_meets t r dictionary (command_rules s).rows (length s) xs)
      (exchange_meets t r (command_rules s).exchange xs s (length s))
  lists_meet (stopped xs v) e = e

  pub command_meets : meets t (command_outcome s) ≡ true
  unfolding command_outcome walk_of
  command_meets =
      in_turn t (header_outcome s) _ (header_meets s t h)
      (lists_meet (walk_of s) (walk_meets t r (length s) dictionary s (own_list s)))

-- ---- the reader's test: a number of the table, with its place, vendor and code; and 7001 is for longer commands

abbrev only_long : List ℕ → Verdict → Bool
only_long s v = not (eqb v.number 7001) || ltb longest_command (length s)

abbrev is_readers : List ℕ → Verdict → Bool
is_readers s v = is_among reader_numbers v.number && fits_table v && only_long s v

command_readers : (s : List ℕ) → meets (is_readers s) (command_outcome s) ≡ true
unfolding reader_numbers fits_table
command_readers s =
    command_meets s (is_readers s)
    (record {
      few = refl;
      version = refl;
      field = refl;
      long = λ h. lt-ltb longest_command (length s) h;
      application = refl;
      code = refl;
      bits = refl;
    })
    (record {
      bits = λ place vendor code. refl;
      unsupported = λ place vendor code. refl;
      value = λ place vendor code. refl;
      missing = λ place vendor code. refl;
      unallowed = λ place vendor code. refl;
      many = λ place vendor code. refl;
      size = λ place vendor code. refl;
      full = λ place. refl;
      deep = λ place vendor code. refl;
    })

-- place, vendor and code go with the number, in acceptance too
fits_told : (s : List ℕ) (o : Outcome) → meets (is_readers s) o ≡ true → fits_table (verdict_of o) ≡ true
unfolding meets fits_table
fits_told s (Ok u) h = refl
fits_told s (Err v) h =
    (and_true (is_among reader_numbers v.number) (fits_table v) (and_true (is_among reader_numbers v.number && fits_table v) (only_long s v) h).0).1

pub command_fits : (s : List ℕ) → fits_table (command_verdict s) ≡ true
unfolding command_verdict
command_fits s = fits_told s (command_outcome s) (command_readers s)

-- 7001 is for commands longer than 16,384 alone
long_told : (s : List ℕ) (o : Outcome) → meets (is_readers s) o ≡ true → (verdict_of o).number ≡ 7001
    → ltb longest_command (length s) ≡ true
unfolding meets
long_told s (Ok u) h e = absurd (omega arith)
long_told s (Err v) h e =
    let last = (and_true (is_among reader_numbers v.number && fits_table v) (only_long s v) h).1 in
    rw (eq-eqb v.number 7001 e) at last

pub command_within : (s : List ℕ) → length s ≤ longest_command → (command_verdict s).number ≡ 7001 → ⊥
unfolding command_verdict
command_within s h e =
    let k = ltb-true longest_command (length s) (long_told s (command_outcome s) (command_readers s) e) in
    omega arith

-- ---- the numbers

-- a refusal's number is one of a list
abbrev number_in : List ℕ → Outcome → Bool
number_in ns = meets (λ v. is_among ns v.number)

-- it is one of the reader's
abbrev is_numbered : Outcome → Bool
is_numbered = number_in reader_numbers

readers_numbered : (s : List ℕ) (o : Outcome) → meets (is_readers s) o ≡ true → is_numbered o ≡ true
unfolding meets
readers_numbered s (Ok u) h = refl
readers_numbered s (Err v) h =
    (and_true (is_among reader_numbers v.number) (fits_table v) (and_true (is_among reader_numbers v.number && fits_table v) (only_long s v) h).0).0

command_numbered : (s : List ℕ) → is_numbered (command_outcome s) ≡ true
command_numbered s = readers_numbered s (command_outcome s) (command_readers s)

-- what the reader gives, the writer may give
writers_too : (o : Outcome) → is_numbered o ≡ true → number_in writer_numbers o ≡ true
unfolding meets writer_only_numbers
writers_too (Ok u) h = refl
writers_too (Err v) h =
    let n = v.number in
    or_right (eqb n 7004) _ (or_right (eqb n 7006) (is_among reader_numbers n) h)

own_numbered : (d : Draft) (room : ℕ) → number_in writer_numbers (own_outcome d room) ≡ true
unfolding own_outcome meets writer_only_numbers reader_numbers
own_numbered d room = simp (either, both)

draft_numbered : (d : Draft) (room : ℕ) → number_in writer_numbers (draft_outcome d room) ≡ true
unfolding draft_outcome
draft_numbered d room =
    in_turn _ (own_outcome d room) (command_outcome (draft_octets d)) (own_numbered d room)
    (writers_too (command_outcome (draft_octets d)) (command_numbered (draft_octets d)))

-- ---- what that says of a number that comes back

-- it is 0 or one of the list
in_table : (ns : List ℕ) (o : Outcome) → number_in ns o ≡ true → is_among (0 ∷ ns) (verdict_of o).number ≡ true
unfolding meets
in_table ns (Ok u) h = refl
in_table ns (Err v) h = or_right (eqb v.number 0) (is_among ns v.number) h

-- a number of a list that lacks m is not m
not_among : (ns : List ℕ) (m n : ℕ) → is_among ns m ≡ false → is_among ns n ≡ true → n ≡ m → ⊥
not_among ns m n lacks h e = not_both (is_among ns m) (rw e at h) lacks

-- the number of a list that lacks 0 tells acceptance
number_tells : (ns : List ℕ) (o : Outcome) → is_among ns 0 ≡ false → number_in ns o ≡ true
    → ((verdict_of o).number ≡ 0) ↔ (o ≡ no_refusal)
unfolding meets
number_tells ns (Ok u) lacks h = (λ z. refl, λ e. refl)
number_tells ns (Err v) lacks h =
    (λ z. absurd (not_among ns 0 v.number lacks h z), λ e. ap (λ (o : Outcome). (verdict_of o).number) e)

-- the reader's numbers
pub command_table : (s : List ℕ) → is_among (0 ∷ reader_numbers) (command_verdict s).number ≡ true
unfolding command_verdict
command_table s = in_table reader_numbers (command_outcome s) (command_numbered s)

-- none of them is one that only the writer gives
pub command_not_writers : (s : List ℕ) → is_among writer_only_numbers (command_verdict s).number ≡ false
unfolding writer_only_numbers reader_numbers
command_not_writers s =
    let n = (command_verdict s).number in
    let t = command_table s in
    simp (
      ne_eqb n 7004 (not_among (0 ∷ reader_numbers) 7004 n refl t),
      ne_eqb n 7006 (not_among (0 ∷ reader_numbers) 7006 n refl t),
    )

-- the writer's numbers
pub draft_table : (d : Draft) (out : List ℕ) → is_among (0 ∷ writer_numbers) (writing d out).verdict.number ≡ true
unfolding writing
draft_table d out = in_table writer_numbers (draft_outcome d (length out)) (draft_numbered d (length out))

-- the number is 0 exactly when the command, or the draft, is accepted
pub command_number : (s : List ℕ) → ((command_verdict s).number ≡ 0) ↔ (command_outcome s ≡ no_refusal)
unfolding command_verdict reader_numbers
command_number s = number_tells reader_numbers (command_outcome s) refl (command_numbered s)

pub draft_number : (d : Draft) (out : List ℕ)
    → ((writing d out).verdict.number ≡ 0) ↔ (draft_outcome d (length out) ≡ no_refusal)
unfolding writing writer_only_numbers reader_numbers
draft_number d out = number_tells writer_numbers (draft_outcome d (length out)) refl (draft_numbered d (length out))

-- so no refusal of a command has the number 0
pub command_refusal : (s : List ℕ) (v : Verdict) → command_outcome s ≡ Err v → v.number ≡ 0 → ⊥
unfolding command_verdict
command_refusal s v e z = never (sym e ∙ (command_number s).0 (ap (λ (o : Outcome). (verdict_of o).number) e ∙ z))
