-- Laws of a length field, and of the goal, up to which octets are held from a command's start on.
use mathlib.Core.Path.{◌≡◌, sym, ap, ◌∙◌}
use mathlib.Core.Bool.{true, false}
use mathlib.Core.List.{List, ◌++◌}
use Prim.Native.Nat.{ℕ, ◌≤◌, ◌<◌}
use native.Mathlib.Omega.{arith}
use borrow.Author.Tests.{le-leb, lt-leb, ltb-true, ltb-false, leb-true}
use lib.Dec.{ltb, leb}
use lib.ListN.{length, take, length-append}
use lib.Seq.{take-append_seam}
use Rattle.rules.specs.Header.{header_size, length_field, longest_command}
use Rattle.rules.proofs.Octets.{number_at_part}
use Rattle.rules.proofs.Tests.{and_true}
use Rattle.rules.proofs.Walk.{by_cases}
use Rattle.fragments.specs.Link.{field_end, is_length, goal}

-- ---- the length field

module _ (n : ℕ) where
  pub length-bounds : is_length n ≡ true → (header_size ≤ n) × (n ≤ longest_command)
  unfolding is_length
  length-bounds e =
      let x = and_true (leb header_size n) (leb n longest_command) e in
      (leb-true _ _ x.0, leb-true _ _ x.1)

-- four octets settle it: those of a start have the length field of the whole
pub field_of_start : (n : ℕ) (s : List ℕ) → field_end ≤ n → n ≤ length s → length_field (take n s) ≡ length_field s
field_of_start n s h k = number_at_part 3 s 0 n 1 (omega arith) (omega arith)

pub field_first : (s t : List ℕ) → field_end ≤ length s → length_field (s ++ t) ≡ length_field s
field_first s t h =
    let l = length-append s t in
    sym (field_of_start (length s) (s ++ t) h (omega arith)) ∙ ap length_field (take-append_seam s t)

-- ---- the goal

module _ (s : List ℕ) where
  pub goal_few : length s < field_end → goal s ≡ field_end
  unfolding goal
  goal_few h = rw (lt-leb field_end (length s) h)

  pub goal_field : field_end ≤ length s → is_length (length_field s) ≡ true → goal s ≡ length_field s
  unfolding goal
  goal_field h e = rw (le-leb field_end (length s) h, e)

  pub goal_refused : field_end ≤ length s → is_length (length_field s) ≡ false → goal s ≡ field_end
  unfolding goal
  goal_refused h e = rw (le-leb field_end (length s) h, e)

  pub goal_bounds : (field_end ≤ goal s) × (goal s ≤ longest_command)
  goal_bounds =
      by_cases (ltb (length s) field_end)
      (λ few. let g = goal_few (ltb-true _ _ few) in (omega arith, omega arith))
      (λ four. by_cases (is_length (length_field s))
      (λ e.
      let g = goal_field (ltb-false _ _ four) e in
      let b = length-bounds (length_field s) e in
      (omega (arith, g, b), omega (arith, g, b)))
      (λ e. let g = goal_refused (ltb-false _ _ four) e in (omega arith, omega arith)))

-- what comes behind four octets does not move it
pub goal_first : (s t : List ℕ) → field_end ≤ length s → goal (s ++ t) ≡ goal s
unfolding goal
goal_first s t h =
    let l = length-append s t in
    rw (field_first s t h, le-leb field_end (length (s ++ t)) (omega arith), le-leb field_end (length s) h)

-- octets short of their goal are short of it with more behind them
pub goal_above : (s t : List ℕ) → length s < goal s → length s < goal (s ++ t)
goal_above s t h =
    let b = (goal_bounds (s ++ t)).0 in
    by_cases (ltb (length s) field_end) (λ few. let k : length s < 4 = ltb-true _ _ few in omega arith)
    (λ four. let g = goal_first s t (ltb-false _ _ four) in omega arith)
