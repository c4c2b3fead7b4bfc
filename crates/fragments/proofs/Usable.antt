-- Laws of the states that can be gone on with: by the tests that tell them, and that the octets which they hold lie in
-- the buffer, short of their goal.
use mathlib.Core.Path.{◌≡◌, refl, sym, ap, ◌∙◌}
use mathlib.Core.Bool.{true, false, ◌&&◌, ◌||◌}
use mathlib.Core.List.{List}
use Prim.Native.Nat.{ℕ, ◌≤◌, ◌<◌}
use native.Mathlib.Omega.{arith}
use borrow.Author.Tests.{lt-ltb, le-ltb, eq-eqb, ne_eqb, ltb-true, ltb-false, eqb-true}
use lib.Dec.{ltb, eqb}
use lib.ListN.{length, take}
use lib.Seq.{length-take-le}
use Rattle.rules.specs.Header.{length_field, longest_command}
use Rattle.rules.proofs.Tests.{and_true}
use Rattle.rules.proofs.Walk.{by_cases}
use Rattle.fragments.specs.declared.State.{State}
use Rattle.fragments.specs.Link.{state, fresh, field_end, is_length, is_usable, goal, held_in}
use Rattle.fragments.proofs.Goals.{length-bounds, field_of_start, goal_few, goal_field, goal_refused}

-- ---- by the tests

-- a fresh state can be gone on with in every buffer, and a stopped one in none
pub fresh_usable : (buffer : List ℕ) → is_usable fresh buffer ≡ true
unfolding is_usable
fresh_usable buffer = refl

module _ (st : State) (buffer : List ℕ) where
  pub stopped_unusable : (st.stopped ≡ 0 → ⊥) → is_usable st buffer ≡ false
  unfolding is_usable
  stopped_unusable h = rw (ne_eqb st.stopped 0 h)

  module _ (going : st.stopped ≡ 0) where
    pub usable_few : st.held < field_end → is_usable st buffer ≡ true
    unfolding is_usable
    usable_few h = rw (eq-eqb st.stopped 0 going, lt-ltb st.held field_end h)

    pub usable_field : field_end ≤ st.held → is_length (length_field buffer) ≡ true
        → is_usable st buffer ≡ ltb st.held (length_field buffer)
    unfolding is_usable
    usable_field four e = rw (eq-eqb st.stopped 0 going, le-ltb st.held field_end four, e)

-- ---- by the goal

-- the octets that such a state holds lie in the buffer, short of their goal
pub record Short (st : State) (buffer : List ℕ) : Type 0 where
  pub goes_on : st.stopped ≡ 0
  pub many : length (held_in st buffer) ≡ st.held
  pub below : st.held < goal (held_in st buffer)

module _ (st : State) (buffer : List ℕ) (room : longest_command ≤ length buffer) where
  few_short : st.stopped ≡ 0 → st.held < field_end → Short st buffer
  few_short z few =
      let l : length (held_in st buffer) ≡ st.held = length-take-le st.held buffer (omega arith) in
      let g = goal_few (held_in st buffer) (omega arith) in
      record { goes_on = z; many = l; below = omega arith }

  field_short : st.stopped ≡ 0 → field_end ≤ st.held → is_length (length_field buffer) ≡ true
      → st.held < length_field buffer → Short st buffer
  field_short z four e below =
      let b = (length-bounds (length_field buffer) e).1 in
      let l : length (held_in st buffer) ≡ st.held = length-take-le st.held buffer (omega arith) in
      let f = field_of_start st.held buffer four (omega arith) in
      let g = goal_field (held_in st buffer) (omega arith) (rw f e) in
      record { goes_on = z; many = l; below = omega arith }

  pub usable_short : is_usable st buffer ≡ true → Short st buffer
  unfolding is_usable
  usable_short e =
      let x =
      and_true (eqb st.stopped 0)
      (ltb st.held field_end || is_length (length_field buffer) && ltb st.held (length_field buffer)) e in
      let z : st.stopped ≡ 0 = eqb-true _ _ x.0 in
      by_cases (ltb st.held field_end) (λ few. few_short z (ltb-true _ _ few))
      (λ four.
      let y =
      and_true (is_length (length_field buffer)) (ltb st.held (length_field buffer)) (rw four at x.1) in
      field_short z (ltb-false _ _ four) y.0 (ltb-true _ _ y.1))

-- and octets of a buffer that are short of their goal can be gone on with
pub short_usable : (s buffer : List ℕ) → take (length s) buffer ≡ s → length s ≤ length buffer → length s < goal s
    → is_usable (state (length s) 0) buffer ≡ true
short_usable s buffer is within below =
    by_cases (ltb (length s) field_end) (λ few. usable_few (state (length s) 0) buffer refl (ltb-true _ _ few))
    (λ four.
    let h : field_end ≤ length s = ltb-false _ _ four in
    let f : length_field s ≡ length_field buffer = ap length_field (sym is) ∙ field_of_start (length s) buffer h within in
    by_cases (is_length (length_field s))
    (λ e.
    let g = goal_field s h e in
    usable_field (state (length s) 0) buffer refl h (ap is_length (sym f) ∙ e)
    ∙ lt-ltb (length s) (length_field buffer) (omega arith))
    (λ e. let g = goal_refused s h e in absurd (omega arith)))
