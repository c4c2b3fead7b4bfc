-- The lines of a listing: what each command makes of them, and what stands behind the last one.
use mathlib.Core.Path.{◌≡◌, refl, sym, ap, ◌∙◌}
use mathlib.Core.Bool.{true, false}
use mathlib.Core.Logic.{⊎_elim}
use mathlib.Core.List.{List, [], ◌∷◌, ◌++◌, append_assoc, append-nil}
use Prim.Native.Nat.{ℕ, zero, suc, ◌+◌, ◌-◌, ◌≤◌, ◌<◌}
use native.Mathlib.Omega.{arith}
use borrow.Author.Tests.{lt-ltb, le-ltb, le-leb, lt-leb, ltb-false}
use lib.Dec.{ltb, leb}
use lib.ListN.{length, take, drop, length-append, length-drop}
use lib.Seq.{take-append_seam, drop-append_seam, drop-drop}
use Rattle.rules.specs.Octets.{number_at}
use Rattle.rules.specs.Header.{header_size}
use Rattle.rules.specs.Command.{command_verdict}
use Rattle.rules.specs.Lines.{command_line, cut_line, end_line}
use Rattle.rules.specs.Book.{length_of, is_cut, command_in, acceptance, lines_from, BookCommand, AllBookCommands, CutOff, joined, command_lines, accepted_of}
use Rattle.rules.proofs.Octets.{number_at_part}
use Rattle.rules.proofs.Tests.{or_right}
use Rattle.rules.proofs.Walk.{by_cases}
use Rattle.rules.proofs.Steps.{lines_steps}

-- ---- one command of a book

module _ (s : List ℕ) (at : ℕ) (c left : List ℕ) (here : drop at s ≡ c ++ left) (in-book : at ≤ length s) where
  left_long : length s - at ≡ length c + length left
  left_long = sym (length-drop at s) ∙ ap length here ∙ length-append c left

  part_is : take (length c) (drop at s) ≡ c
  part_is = ap (take (length c)) here ∙ take-append_seam c left

  -- the length field stands in the part
  field_here : 4 ≤ length c → length_of s at ≡ length_of c 0
  field_here h =
      let l = left_long in
      sym (number_at_part 3 s at (length c) 1 (omega arith) (omega arith))
      ∙ ap (λ (l : List ℕ). number_at 3 l 1) part_is

  pub behind_is : drop (at + length c) s ≡ left
  behind_is = sym (drop-drop (length c) at s) ∙ ap (drop (length c)) here ∙ drop-append_seam c left

  module _ (e : BookCommand c) where
    long_here : length_of s at ≡ length c
    long_here = let enough = e.enough in field_here (omega arith) ∙ e.field_is

    command_here : command_in s at ≡ c
    command_here = ap (λ (n : ℕ). take n (drop at s)) long_here ∙ part_is

    not_past : leb (length s) at ≡ false
    not_past =
        let l = left_long in
        let enough = e.enough in
        lt-leb (length s) at (omega arith)

    not_cut : is_cut s at ≡ false
    unfolding is_cut
    not_cut =
        let l = left_long in
        let enough = e.enough in
        rw (
          long_here,
          le-ltb (length s - at) 4 (omega arith),
          le-ltb (length c) header_size e.enough,
          le-ltb (length s - at) (length c) (omega arith),
        )

    command_line_lem : (n commands accepted : ℕ)
        → lines_from (suc n) s at commands accepted
        ≡ command_line (commands + 1) at (command_verdict c)
        ++ lines_from n s (at + length c) (commands + 1) (accepted + acceptance (command_verdict c))
    unfolding lines_from
    command_line_lem n commands accepted = rw (not_past, not_cut, command_here, long_here)

-- ---- the commands of a book

module _ (s left : List ℕ) where
  -- their lines, and then those from behind them on
  pub lines_of : (cs : List (List ℕ)) → AllBookCommands cs → (n m at commands accepted at' commands' accepted' : ℕ)
      → drop at s ≡ joined cs ++ left → at ≤ length s → length s - at < n → length s - at' < m
      → at' ≡ at + length (joined cs) → commands' ≡ commands + length cs → accepted' ≡ accepted + accepted_of cs
      → lines_from n s at commands accepted ≡ command_lines (commands + 1) at cs ++ lines_from m s at' commands' accepted'
  lines_of [] e n m at commands accepted at' commands' accepted' here in-book h k p q r =
      let p' : at' ≡ at = omega arith in
      let q' : commands' ≡ commands = omega arith in
      let r' : accepted' ≡ accepted = omega arith in
      rw (p', q', r') (lines_steps n m s at commands accepted h (omega arith))
  lines_of (c ∷ cs) e zero m at commands accepted at' commands' accepted' here in-book h k p q r = absurd (omega arith)
  lines_of (c ∷ cs) e (suc n) m at commands accepted at' commands' accepted' here in-book h k p q r =
      let f = e.0 in
      let enough = f.enough in
      let here' : drop at s ≡ c ++ (joined cs ++ left) = here ∙ append_assoc c (joined cs) left in
      let l = left_long s at c (joined cs ++ left) here' in-book in
      let long = length-append c (joined cs) in
      let more : length (c ∷ cs) ≡ suc (length cs) = refl in
      let count : accepted_of (c ∷ cs) ≡ acceptance (command_verdict c) + accepted_of cs = refl in
      let rest =
      lines_of cs e.1 n m (at + length c) (commands + 1) (accepted + acceptance (command_verdict c)) at' commands'
      accepted' (behind_is s at c (joined cs ++ left) here' in-book) (omega arith) (omega arith) k (omega arith)
      (omega arith) (omega arith) in
      command_line_lem s at c (joined cs ++ left) here' in-book f n commands accepted
      ∙ ap (λ (t : List ℕ). command_line (commands + 1) at (command_verdict c) ++ t) rest
      ∙ sym (append_assoc (command_line (commands + 1) at (command_verdict c)) _ _)

  -- ---- behind them

  pub last_line_lem : (n at commands accepted : ℕ) → length s ≤ at
      → lines_from (suc n) s at commands accepted ≡ end_line commands accepted
  unfolding lines_from
  last_line_lem n at commands accepted h = rw (le-leb (length s) at h)

  module _ (at : ℕ) (here : drop at s ≡ left) (in-book : at ≤ length s) (k : CutOff left) where
    here_alone : drop at s ≡ left ++ []
    here_alone = here ∙ sym (append-nil left)

    left_is : length s - at ≡ length left
    left_is = sym (length-drop at s) ∙ ap length here

    is_cut_lem : is_cut s at ≡ true
    unfolding is_cut
    is_cut_lem =
        let l = left_is in
        by_cases (ltb (length s - at) 4) (λ h. rw h)
        (λ h.
        let four : 4 ≤ length s - at = ltb-false _ _ h in
        let field = field_here s at left [] here_alone in-book (omega arith) in
        ⊎_elim (λ few. absurd (omega arith))
        (⊎_elim (λ short. rw (h, field, lt-ltb (length_of left 0) header_size short))
        (λ past.
        let b : ltb (length s - at) (length_of left 0) ≡ true =
        lt-ltb (length s - at) (length_of left 0) (omega arith) in
        rw (h, field) (or_right (ltb (length_of left 0) header_size) _ b)))
        k.no_command)

    pub cut_line_lem : (n commands accepted : ℕ) → lines_from (suc n) s at commands accepted ≡ cut_line (commands + 1) at
    unfolding lines_from
    cut_line_lem n commands accepted =
        let l = left_is in
        let some = k.some in
        rw (lt-leb (length s) at (omega arith), is_cut_lem)
