-- Laws of a run uncut: the bound on the number of commands never runs out, and a run is its first command and the run
-- behind it, or has no command.
use mathlib.Core.Path.{◌≡◌, refl, sym, ap, ◌∙◌}
use mathlib.Core.Bool.{true, false, cond, ◌&&◌}
use mathlib.Core.List.{List, [], ◌∷◌}
use Prim.Native.Nat.{ℕ, zero, suc, ◌+◌, ◌≤◌, ◌<◌}
use native.Mathlib.Omega.{arith}
use borrow.Author.Tests.{le-leb, lt-leb, leb-true}
use lib.Dec.{leb}
use lib.ListN.{length, take, drop, length-append, length-drop}
use lib.Seq.{length-take-le, drop-drop}
use Rattle.rules.specs.Header.{header_size, length_field}
use Rattle.rules.specs.Command.{command_verdict}
use Rattle.rules.specs.Book.{joined}
use Rattle.rules.proofs.Tests.{and_true}
use Rattle.rules.proofs.Walk.{by_cases}
use Rattle.fragments.specs.Link.{field_end, is_length, goal, length_refusal}
use Rattle.fragments.specs.Run.{in_range, is_whole, commands_in, commands_of, behind_of, stops, verdicts_uncut, rest_uncut, taken_uncut}
use Rattle.fragments.proofs.Bounds.{range_is, stop_is}
use Rattle.fragments.proofs.Goals.{length-bounds, goal_field, goal_refused}

-- ---- what a test for a whole command tells

pub record Whole (s : List ℕ) : Type 0 where
  pub enough : header_size ≤ length_field s
  pub within : length_field s ≤ length s

pub whole : (s : List ℕ) → is_whole s ≡ true → Whole s
unfolding is_whole
whole s e =
    let x = and_true (leb field_end (length s) && in_range (length_field s)) (leb (length_field s) (length s)) e in
    let y = and_true (leb field_end (length s)) (in_range (length_field s)) x.0 in
    let r = sym (range_is (length_field s)) ∙ y.1 in
    record { enough = (length-bounds (length_field s) r).0; within = leb-true _ _ x.1 }

pub is_whole_lem : (s : List ℕ) → is_length (length_field s) ≡ true → length_field s ≤ length s → is_whole s ≡ true
unfolding is_whole
is_whole_lem s e h =
    let b = (length-bounds (length_field s) e).0 in
    rw (le-leb field_end (length s) (omega arith), range_is (length_field s), e, le-leb (length_field s) (length s) h)

-- octets that have not reached their goal
pub short_not_whole : (s : List ℕ) → length s < goal s → is_whole s ≡ false
unfolding is_whole
short_not_whole s h =
    by_cases (leb field_end (length s))
    (λ four. by_cases (is_length (length_field s))
    (λ e.
    let g = goal_field s (leb-true _ _ four) e in
    rw (four, range_is (length_field s), e, lt-leb (length_field s) (length s) (omega arith)))
    (λ e. rw (four, range_is (length_field s), e)))
    (λ few. rw few)

pub short_not_stops : (s : List ℕ) → length s < goal s → stops s ≡ false
unfolding stops
short_not_stops s h =
    by_cases (leb field_end (length s))
    (λ four.
    let k : field_end ≤ length s = leb-true _ _ four in
    by_cases (is_length (length_field s)) (λ e. rw (four, range_is (length_field s), e))
    (λ e. let g = goal_refused s k e in absurd (omega arith)))
    (λ few. rw few)

-- ---- steps

none_not_whole : (s : List ℕ) → length s ≤ 0 → is_whole s ≡ false
unfolding is_whole
none_not_whole s h = rw (lt-leb field_end (length s) (omega arith))

-- a bound of at least as many as there are octets gives the same commands as every other such bound
pub commands_steps : (n m : ℕ) (s : List ℕ) → length s ≤ n → length s ≤ m → commands_in n s ≡ commands_in m s
unfolding commands_in
commands_steps zero zero s h k = refl
commands_steps zero (suc m) s h k = rw (none_not_whole s h)
commands_steps (suc n) zero s h k = rw (none_not_whole s k)
commands_steps (suc n) (suc m) s h k =
    let rest = commands_steps n m (drop (length_field s) s) in
    let l = length-drop (length_field s) s in
    by_cases (is_whole s)
    (λ e.
    let a = (whole s e).enough in
    rw e (ap (λ (cs : List (List ℕ)). take (length_field s) s ∷ cs) (rest (omega arith) (omega arith))))
    (λ e. rw e)

-- ---- a run that begins with a command

module _ (s : List ℕ) (e : is_whole s ≡ true) where
  abbrev size : ℕ
  size = length_field s

  abbrev behind : List ℕ
  behind = drop size s

  pub commands_of_lem : commands_of s ≡ take size s ∷ commands_of behind
  unfolding commands_in
  commands_of_lem =
      let l = length-drop size s in
      commands_steps (length s) (suc (length s)) s (omega arith) (omega arith)
      ∙ rw e
      (ap (λ (cs : List (List ℕ)). take size s ∷ cs)
      (commands_steps (length s) (length behind) behind (omega arith) (omega arith)))

  pub joined_long : length (joined (commands_of s)) ≡ size + length (joined (commands_of behind))
  joined_long =
      ap (λ (cs : List (List ℕ)). length (joined cs)) commands_of_lem
      ∙ length-append (take size s) (joined (commands_of behind))
      ∙ ap (λ (n : ℕ). n + length (joined (commands_of behind))) (length-take-le size s (whole s e).within)

  pub behind_of_lem : behind_of s ≡ behind_of behind
  behind_of_lem =
      ap (λ (n : ℕ). drop n s) joined_long ∙ sym (drop-drop (length (joined (commands_of behind))) size s)

  pub rest_first : rest_uncut s ≡ rest_uncut behind
  unfolding rest_uncut
  rest_first = rw behind_of_lem

  pub taken_first : taken_uncut s ≡ size + taken_uncut behind
  unfolding taken_uncut
  taken_first =
      let l = joined_long in
      let r = ap length rest_first in
      omega arith

  pub verdicts_first : verdicts_uncut s ≡ command_verdict (take size s) ∷ verdicts_uncut behind
  unfolding verdicts_uncut
  verdicts_first = rw (behind_of_lem, commands_of_lem)

-- ---- a run that does not

module _ (s : List ℕ) (e : is_whole s ≡ false) where
  pub commands_none : (n : ℕ) → commands_in n s ≡ []
  unfolding commands_in
  commands_none zero = refl
  commands_none (suc n) = rw e

  pub behind_all : behind_of s ≡ s
  behind_all = ap (λ (cs : List (List ℕ)). drop (length (joined cs)) s) (commands_none (length s))

  rest_by : rest_uncut s ≡ cond (stops s) (take field_end s) s
  unfolding rest_uncut
  rest_by = rw behind_all

  taken_by_lem : taken_uncut s ≡ length (rest_uncut s)
  unfolding taken_uncut
  taken_by_lem = let l = ap (λ (cs : List (List ℕ)). length (joined cs)) (commands_none (length s)) in omega arith

  verdicts_by : verdicts_uncut s ≡ cond (stops s) (length_refusal (length_field s) ∷ []) []
  unfolding verdicts_uncut
  verdicts_by = rw (behind_all, commands_none (length s), stop_is (length_field s))

-- all of it is the unfinished rest
module _ (s : List ℕ) (h : length s < goal s) where
  pub verdicts_short : verdicts_uncut s ≡ []
  verdicts_short = verdicts_by s (short_not_whole s h) ∙ rw (short_not_stops s h)

  pub rest_short : rest_uncut s ≡ s
  rest_short = rest_by s (short_not_whole s h) ∙ rw (short_not_stops s h)

  pub taken_short : taken_uncut s ≡ length s
  taken_short = taken_by_lem s (short_not_whole s h) ∙ ap length rest_short

-- or it stops there
module _ (s : List ℕ) (four : field_end ≤ length s) (e : is_length (length_field s) ≡ false) where
  pub stopped_not_whole : is_whole s ≡ false
  unfolding is_whole
  stopped_not_whole = rw (le-leb field_end (length s) four, range_is (length_field s), e)

  pub is_stopped : stops s ≡ true
  unfolding stops
  is_stopped = rw (le-leb field_end (length s) four, range_is (length_field s), e)

  pub verdicts_stopped : verdicts_uncut s ≡ length_refusal (length_field s) ∷ []
  verdicts_stopped = verdicts_by s stopped_not_whole ∙ rw is_stopped

  pub rest_stopped : rest_uncut s ≡ take field_end s
  rest_stopped = rest_by s stopped_not_whole ∙ rw is_stopped

  pub taken_stopped : taken_uncut s ≡ field_end
  taken_stopped = taken_by_lem s stopped_not_whole ∙ ap length rest_stopped ∙ length-take-le field_end s four
