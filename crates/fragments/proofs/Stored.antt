-- Octets of a fragment stored in a buffer behind those held: with them they stand at its start, their length field is
-- that of all octets offered, and they may be stored in two parts.
use mathlib.Core.Path.{◌≡◌, sym, ap, ◌∙◌}
use mathlib.Core.List.{List, ◌++◌}
use Prim.Native.Nat.{ℕ, ◌+◌, ◌≤◌}
use native.Mathlib.Omega.{arith}
use lib.ListN.{length, take, drop, length-append}
use lib.Seq.{sets, sets-eq, length-sets, length-take-le, take_at, take-append-add, take-add}
use Rattle.rules.specs.Header.{length_field}
use Rattle.octets.proofs.Puts.{sets-append}
use Rattle.fragments.specs.Link.{field_end}
use Rattle.fragments.proofs.Goals.{field_of_start}

module _ (held : ℕ) (fragment buffer : List ℕ) (t : ℕ) (within : t ≤ length fragment) (fits : held + t ≤ length buffer)
  where
    abbrev start : List ℕ
    start = take held buffer ++ take t fragment

    held_long : length (take held buffer) ≡ held
    held_long = length-take-le held buffer (omega arith)

    taken_long : length (take t fragment) ≡ t
    taken_long = length-take-le t fragment within

    pub start_long : length start ≡ held + t
    start_long =
        let h = held_long in
        let l = taken_long in
        length-append (take held buffer) (take t fragment) ∙ rw (h, l)

    pub stored_start : take (held + t) (sets buffer held (take t fragment)) ≡ start
    stored_start =
        let l = taken_long in
        ap (take (held + t)) (sets-eq (take t fragment) buffer held (omega arith))
        ∙ take_at start (drop (held + length (take t fragment)) buffer) (held + t) start_long

    pub start_is : start ≡ take (held + t) (take held buffer ++ fragment)
    start_is =
        sym (take-append-add (take held buffer) fragment t)
        ∙ ap (λ (n : ℕ). take (n + t) (take held buffer ++ fragment)) held_long

    pub stored_field : field_end ≤ held + t
        → length_field (sets buffer held (take t fragment)) ≡ length_field (take held buffer ++ fragment)
    stored_field four =
        let h = held_long in
        let l = length-append (take held buffer) fragment in
        let s = length-sets buffer held (take t fragment) in
        sym (field_of_start (held + t) (sets buffer held (take t fragment)) four (omega arith))
        ∙ ap length_field (stored_start ∙ start_is)
        ∙ field_of_start (held + t) (take held buffer ++ fragment) four (omega arith)

    pub stored_twice : (u : ℕ)
        → sets (sets buffer held (take t fragment)) (held + t) (take u (drop t fragment))
        ≡ sets buffer held (take (t + u) fragment)
    stored_twice u =
        ap (λ (n : ℕ). sets (sets buffer held (take t fragment)) (held + n) (take u (drop t fragment))) (sym taken_long)
        ∙ sym (sets-append buffer held (take t fragment) (take u (drop t fragment)))
        ∙ ap (sets buffer held) (sym (take-add t u fragment))
