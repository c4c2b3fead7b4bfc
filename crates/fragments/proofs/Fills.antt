-- The ends of a call that takes octets: short of the length field, stopped at it, short of the command's end, or with a
-- whole command. Octets are stored up to the fourth, then, behind a length field of a command, up to the command's end.
use mathlib.Core.Path.{◌≡◌, refl, sym, ap, ◌∙◌}
use mathlib.Core.Bool.{true, false}
use mathlib.Core.List.{List, ◌++◌}
use Prim.Native.Nat.{ℕ, ◌+◌, ◌-◌, ◌≤◌, ◌<◌, min}
use native.Mathlib.Omega.{arith}
use lib.ListN.{length, take, drop, length-drop}
use lib.Seq.{sets, length-sets, take_all}
use Rattle.rules.specs.declared.Verdict.{Verdict}
use Rattle.rules.specs.Header.{length_field, longest_command}
use Rattle.rules.specs.Command.{command_verdict}
use Rattle.reader.specs.Promise.{Judged, log_after}
use Rattle.fragments.specs.declared.State.{State}
use Rattle.fragments.specs.declared.Step.{Step}
use Rattle.fragments.specs.declared.Progress.TheVariants.{Unfinished, Command, Refusal}
use Rattle.fragments.specs.Link.{state, step_by, field_end, is_length, goal, length_refusal}
use Rattle.fragments.specs.Promise.{Filled, CanTake, TakenFrom}
use Rattle.fragments.proofs.Goals.{length-bounds, goal_few, goal_field, goal_refused, goal_bounds}
use Rattle.fragments.proofs.Stored.{start_is, stored_start, stored_field, stored_twice}
use Rattle.fragments.proofs.Calls.{offered, offered_long, goal_over, step_command, step_refusal}
use Rattle.fragments.proofs.Promises.{taken_from, all_taken}

-- octets were stored up to the fourth
pub record Begun : Type 0 where
  pub held : ℕ
  pub fragment : List ℕ
  pub buffer : List ℕ
  pub can : CanTake held buffer
  pub first : ℕ
  pub after : List ℕ
  pub filled : Filled buffer held fragment field_end first after

-- the length field stands
pub record Stands (x : Begun) : Type 0 where
  pub four : field_end ≤ x.held + x.first
  pub size : ℕ
  pub field : size ≡ length_field x.after

-- it is a command's, and octets were stored up to the command's end
pub record Resumed (x : Begun) (y : Stands x) : Type 0 where
  pub right : is_length y.size ≡ true
  pub second : ℕ
  pub after : List ℕ
  pub filled : Filled x.after (x.held + x.first)
      (take (length x.fragment - x.first) (drop x.first x.fragment)) y.size second after

-- ---- short of the length field

module _ (x : Begun) where
  abbrev st : State
  st = state x.held 0

  abbrev all : List ℕ
  all = offered st x.fragment x.buffer

  all_long : length all ≡ x.held + length x.fragment
  all_long = offered_long st x.fragment x.buffer x.can.room x.can.usable

  over : x.held < goal all
  over = goal_over st x.fragment x.buffer x.can.room x.can.usable

  -- octets are held up to the fourth, or as many as before
  pub begun_below : x.held + x.first < longest_command
  begun_below = omega (arith, x.filled.count, over, goal_bounds all)

  first_within : x.first ≤ length x.fragment
  first_within = omega (arith, x.filled.count)

  after_long : length x.after ≡ length x.buffer
  after_long = ap length x.filled.octets ∙ length-sets x.buffer x.held (take x.first x.fragment)

  pub ends_short : x.held + x.first < field_end
      → (r : Step) → r ≡ step_by x.first (x.held + x.first) Unfinished
      → (log : List ℕ) → TakenFrom x.held x.fragment x.buffer log r x.after log
  ends_short few r is log =
      let n : x.first ≡ length x.fragment = omega (arith, x.filled.count) in
      let g = goal_few all (omega (arith, all_long)) in
      all_taken x.held x.fragment x.buffer x.can x.first n (omega arith) r is x.after
      x.filled.octets log

  -- ---- at the length field

  module _ (y : Stands x) where
    first_fits : x.held + x.first ≤ length x.buffer
    first_fits = omega (arith, begun_below, x.can.room)

    field_is : y.size ≡ length_field all
    field_is =
        y.field
        ∙ ap length_field x.filled.octets
        ∙ stored_field x.held x.fragment x.buffer x.first first_within first_fits y.four

    all_four : field_end ≤ length all
    all_four = omega (arith, y.four, all_long, first_within)

    pub ends_refused : is_length y.size ≡ false
        → (r : Step) → r ≡ step_by x.first (x.held + x.first) (Refusal (length_refusal y.size))
        → (log : List ℕ) → TakenFrom x.held x.fragment x.buffer log r x.after log
    ends_refused e r is log =
        let wrong : is_length (length_field all) ≡ false = ap is_length (sym field_is) ∙ e in
        let g = goal_refused all all_four wrong in
        let first : field_end - x.held ≡ x.first = omega (arith, x.filled.count, y.four) in
        let held : field_end ≡ x.held + x.first = omega (arith, over) in
        let answer =
        step_refusal st x.fragment x.buffer x.can.room x.can.usable (omega (arith, all_four)) wrong
        ∙ ap (λ (n : ℕ). step_by (field_end - x.held) field_end (Refusal (length_refusal n))) (sym field_is)
        ∙ ap (λ (n : ℕ). step_by n field_end (Refusal (length_refusal y.size))) first
        ∙ ap (λ (n : ℕ). step_by x.first n (Refusal (length_refusal y.size))) held in
        taken_from x.held x.fragment x.buffer x.can _ answer r is x.after log log
        x.filled.octets refl

    module _ (e : is_length y.size ≡ true) where
      right : is_length (length_field all) ≡ true
      right = ap is_length (sym field_is) ∙ e

      goal_is : goal all ≡ y.size
      goal_is = goal_field all all_four right ∙ sym field_is

      pub command_fits : y.size ≤ length x.after
      command_fits = omega (arith, length-bounds y.size e, x.can.room, after_long)

      pub begun_within : x.held + x.first ≤ y.size
      begun_within = omega (arith, length-bounds y.size e, x.filled.count, over, goal_is)

    -- ---- up to the command's end

    module _ (z : Resumed x y) where
      abbrev taken : ℕ
      taken = x.first + z.second

      rest : take (length x.fragment - x.first) (drop x.first x.fragment) ≡ drop x.first x.fragment
      rest =
          let l = length-drop x.first x.fragment in
          take_all (length x.fragment - x.first) (drop x.first x.fragment) (omega arith)

      second_is : z.second ≡ min (length x.fragment - x.first) (y.size - (x.held + x.first))
      second_is =
          z.filled.count
          ∙ ap (λ (l : List ℕ). min (length l) (y.size - (x.held + x.first))) rest
          ∙ ap (λ (n : ℕ). min n (y.size - (x.held + x.first))) (length-drop x.first x.fragment)

      taken_within : taken ≤ length x.fragment
      taken_within = omega (arith, second_is, first_within)

      taken_below : x.held + taken ≤ y.size
      taken_below = omega (arith, second_is, begun_within z.right)

      taken_fits : x.held + taken ≤ length x.buffer
      taken_fits = omega (arith, taken_below, command_fits z.right, after_long)

      stored : z.after ≡ sets x.buffer x.held (take taken x.fragment)
      stored =
          z.filled.octets
          ∙ rw (rest, x.filled.octets)
          (stored_twice x.held x.fragment x.buffer x.first first_within first_fits z.second)

      pub ends_unfinished : x.held + taken < y.size
          → (r : Step) → r ≡ step_by taken (x.held + taken) Unfinished
          → (log : List ℕ) → TakenFrom x.held x.fragment x.buffer log r z.after log
      ends_unfinished less r is log =
          let n : taken ≡ length x.fragment = omega (arith, second_is, first_within) in
          let g = goal_is z.right in
          all_taken x.held x.fragment x.buffer x.can taken n (omega arith) r is z.after stored log

      pub command_stored : y.size ≤ length z.after
      command_stored =
          let l = ap length stored ∙ length-sets x.buffer x.held (take taken x.fragment) in
          omega (arith, l, command_fits z.right, after_long)

      module _ (reached : y.size ≤ x.held + taken) where
        whole : x.held + taken ≡ y.size
        whole = omega (arith, taken_below)

        command_is : take y.size z.after ≡ take x.held x.buffer ++ take taken x.fragment
        command_is =
            ap (take y.size) stored
            ∙ ap (λ (n : ℕ). take n (sets x.buffer x.held (take taken x.fragment))) (sym whole)
            ∙ stored_start x.held x.fragment x.buffer taken taken_within taken_fits

        front_is : take y.size z.after ≡ take (length_field all) all
        front_is =
            command_is
            ∙ start_is x.held x.fragment x.buffer taken taken_within taken_fits
            ∙ ap (λ (n : ℕ). take n all) (whole ∙ field_is)

        pub ends_command : (v : Verdict) (log log' : List ℕ) → Judged (take y.size z.after) log v log'
            → (r : Step) → r ≡ step_by taken (x.held + taken) (Command v)
            → TakenFrom x.held x.fragment x.buffer log r z.after log'
        ends_command v log log' j r is =
            let enough : goal all ≤ length all = omega (arith, goal_is z.right, all_long, taken_within) in
            let n : length_field all - x.held ≡ taken = omega (arith, whole, field_is) in
            let answer =
            step_command st x.fragment x.buffer x.can.room x.can.usable enough (right z.right)
            ∙ ap (λ (k : ℕ). step_by k 0 (Command (command_verdict (take (length_field all) all)))) n
            ∙ ap (λ (u : Verdict). step_by taken 0 (Command u)) (ap command_verdict (sym front_is) ∙ sym j.answer) in
            taken_from x.held x.fragment x.buffer x.can _ answer r is z.after log log' stored
            (j.left ∙ ap (λ (c : List ℕ). log_after c log) command_is)
