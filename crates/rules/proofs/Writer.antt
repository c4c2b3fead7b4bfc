-- Laws of the writer's own refusals, case by case.
use mathlib.Core.Path.{◌≡◌}
use mathlib.Core.Bool.{true, false}
use mathlib.Core.List.{List}
use Prim.Native.Nat.{ℕ, ◌≤◌, ◌<◌}
use borrow.Author.Tests.{lt-ltb, le-ltb}
use lib.ListN.{length}
use Rattle.rules.specs.Verdict.{refused, no_refusal}
use Rattle.rules.specs.Header.{longest_command}
use Rattle.rules.specs.Draft.{Draft, is_well_formed}
use Rattle.rules.specs.Writer.{draft_octets, own_outcome}

module _ (d : Draft) (out : List ℕ) where
  pub by_form : is_well_formed d ≡ false → own_outcome d (length out) ≡ refused 7006 0 0 0
  unfolding own_outcome
  by_form h = rw h

  module _ (form : is_well_formed d ≡ true) where
    pub by_length : longest_command < length (draft_octets d) → own_outcome d (length out) ≡ refused 7001 0 0 0
    unfolding own_outcome
    by_length h = rw (form, lt-ltb longest_command (length (draft_octets d)) h)

    module _ (within : length (draft_octets d) ≤ longest_command) where
      pub by_room : length out < length (draft_octets d) → own_outcome d (length out) ≡ refused 7004 0 0 0
      unfolding own_outcome
      by_room h =
          rw (form, le-ltb longest_command (length (draft_octets d)) within, lt-ltb (length out) (length (draft_octets d)) h)

      pub none_own : length (draft_octets d) ≤ length out → own_outcome d (length out) ≡ no_refusal
      unfolding own_outcome
      none_own h =
          rw (form, le-ltb longest_command (length (draft_octets d)) within, le-ltb (length out) (length (draft_octets d)) h)
