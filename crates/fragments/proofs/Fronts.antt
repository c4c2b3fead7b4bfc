-- What octets come to that are held from a command's start on: short of their goal nothing yet; at or past it, what
-- their front up to it comes to.
use mathlib.Core.Path.{◌≡◌, sym, ap, ◌∙◌}
use mathlib.Core.Bool.{true, false}
use mathlib.Core.List.{List}
use Prim.Native.Nat.{ℕ, ◌≤◌, ◌<◌}
use native.Mathlib.Omega.{arith}
use borrow.Author.Tests.{lt-ltb, le-ltb}
use lib.ListN.{length, take, drop, take-append-drop}
use lib.Seq.{length-take-le}
use Rattle.rules.specs.Header.{length_field}
use Rattle.rules.specs.Command.{command_verdict}
use Rattle.fragments.specs.declared.Progress.TheVariants.{Unfinished, Command, Refusal}
use Rattle.fragments.specs.Link.{field_end, is_length, goal, length_refusal, progress_of}
use Rattle.fragments.proofs.Goals.{field_first, goal_bounds, goal_first}

pub progress_short : (s : List ℕ) → length s < goal s → progress_of s ≡ Unfinished
unfolding progress_of
progress_short s h = rw (lt-ltb (length s) (goal s) h)

progress_command : (s : List ℕ) → goal s ≤ length s → is_length (length_field s) ≡ true
    → progress_of s ≡ Command (command_verdict s)
unfolding progress_of
progress_command s h e = rw (le-ltb (length s) (goal s) h, e)

progress_refusal : (s : List ℕ) → goal s ≤ length s → is_length (length_field s) ≡ false
    → progress_of s ≡ Refusal (length_refusal (length_field s))
unfolding progress_of
progress_refusal s h e = rw (le-ltb (length s) (goal s) h, e)

-- octets at or past their goal: their front up to it has the same goal and length field
module _ (s : List ℕ) (reached : goal s ≤ length s) where
  abbrev front : List ℕ
  front = take (goal s) s

  pub front_long : length front ≡ goal s
  front_long = length-take-le (goal s) s reached

  front_four : field_end ≤ length front
  front_four =
      let l = front_long in
      let b = (goal_bounds s).0 in
      omega arith

  pub front_goal : goal front ≡ goal s
  front_goal = sym (goal_first front (drop (goal s) s) front_four) ∙ ap goal (take-append-drop (goal s) s)

  front_field : length_field front ≡ length_field s
  front_field =
      sym (field_first front (drop (goal s) s) front_four) ∙ ap length_field (take-append-drop (goal s) s)

  pub front_command : is_length (length_field s) ≡ true → progress_of front ≡ Command (command_verdict front)
  front_command e =
      let l = front_long in
      let g = front_goal in
      progress_command front (omega arith) (rw front_field e)

  pub front_refusal : is_length (length_field s) ≡ false → progress_of front ≡ Refusal (length_refusal (length_field s))
  front_refusal e =
      let l = front_long in
      let g = front_goal in
      progress_refusal front (omega arith) (rw front_field e)
      ∙ ap (λ (n : ℕ). Refusal (length_refusal n)) front_field
