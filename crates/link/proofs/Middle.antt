-- A stream in the middle of its pieces: what is left to print hangs on the tally, the octets held and those to come. No
-- count begins anew at 0, since each is at most the offset.
use Rattle.std.proofs.Common.{◌≡◌, ℕ, zero, suc, ◌+◌, ◌^◌, ◌<◌, ◌≤◌, Bool, true, false, eqb, List, [], ◌∷◌, ◌++◌, length, drop, sym, refl, ap, ◌∙◌, append-nil, mod-eq_of_lt, arith, eq-eqb, ne_eqb, eqb-true}
use borrow.Author.Tests.{eqb-false}
use Rattle.rules.specs.Header.{longest_command}
use Rattle.rules.specs.Lines.{cut_line}
use Rattle.rules.proofs.Walk.{by_cases}
use Rattle.fragments.specs.declared.Step.{Step}
use Rattle.fragments.specs.Link.{is_usable, held_in, buffer_after, goal}
use Rattle.fragments.proofs.Usable.{Short, usable_short}
use Rattle.link.specs.declared.Tally.{Tally}
use Rattle.link.specs.Listing.{counted, listed, behind, answer_to, line_by, tally_by, tally_after, list_from, last_line}
use Rattle.link.proofs.Lines.{lines_uncut, lines_end, lines_cut, lines_open}

pub counted_small : (n : ℕ) → n < 2 ^ 64 → counted n ≡ n
unfolding counted
counted_small n h = mod-eq_of_lt h

-- a stream that goes on, with this many octets to come
pub record Going (t : Tally) (buffer : List ℕ) (more : ℕ) : Type 0 where
  pub room : longest_command ≤ length buffer
  pub usable : is_usable t.state buffer ≡ true
  pub few : t.commands ≤ t.offset
  pub fewer : t.accepted ≤ t.commands
  pub within : t.offset + (t.state.held + more) < 2 ^ 64

-- what is left to print, with these octets to come: to the end of the input, or before it is known
abbrev pub lines_left : Bool → Tally → List ℕ → List ℕ → List ℕ
lines_left over t buffer more =
    lines_uncut over t.commands t.accepted t.offset (held_in t.state buffer ++ more)

-- ---- at the end of the input

module _ (t : Tally) (buffer : List ℕ) (going : Going t buffer 0) where
  abbrev held : List ℕ
  held = held_in t.state buffer

  short : Short t.state buffer
  short = usable_short t.state buffer going.room going.usable

  held_less : length held < goal held
  held_less =
      let m = short.many in
      let b = short.below in
      omega arith

  pub last_left : last_line t ≡ lines_left true t buffer []
  unfolding last_line
  last_left =
      let on = eq-eqb t.state.stopped 0 short.goes_on in
      let m = short.many in
      let f = going.few in
      let w = going.within in
      let all : lines_uncut true t.commands t.accepted t.offset held ≡ lines_left true t buffer [] =
      ap (lines_uncut true t.commands t.accepted t.offset) (sym (append-nil held)) in
      by_cases (eqb t.state.held 0)
      (λ none.
      let z : t.state.held ≡ 0 = eqb-true _ _ none in
      rw (on, none)
      (sym (lines_end t.commands t.accepted t.offset held held_less (omega arith)) ∙ all))
      (λ some.
      let z : t.state.held ≡ 0 → ⊥ = eqb-false _ _ some in
      rw (on, some)
      (ap (λ (n : ℕ). cut_line n t.offset) (counted_small (t.commands + 1) (omega arith))
      ∙ sym (lines_cut t.commands t.accepted t.offset held held_less (omega arith))
      ∙ all))

  -- and before it is known
  pub none_left : [] ≡ lines_left false t buffer []
  none_left =
      sym (ap (lines_uncut false t.commands t.accepted t.offset) (append-nil held)
      ∙ lines_open t.commands t.accepted t.offset held held_less)

-- ---- one call of the reader

module _ (n : ℕ) (t : Tally) (buffer octets : List ℕ) where
  abbrev after : List ℕ
  after = buffer_after t.state octets buffer

  -- octets are left, the stream goes on, and some are taken
  pub list_turn : (a : Step) → answer_to t buffer octets ≡ a → 1 ≤ length octets → t.state.stopped ≡ 0 → 1 ≤ a.taken
      → list_from (suc n) t buffer octets
      ≡ behind (line_by t a.progress)
      (list_from n (tally_by t (t.state.held + a.taken) a.progress a.state) after (drop a.taken octets))
  unfolding list_from tally_after
  list_turn a is some on more =
      rw (
        is,
        ne_eqb (length octets) 0 (λ e. omega arith),
        eq-eqb t.state.stopped 0 on,
        ne_eqb a.taken 0 (λ e. omega arith),
      )

-- nothing is listed once the stream has stopped
pub list_stopped : (n : ℕ) (t : Tally) (buffer octets : List ℕ) → 1 ≤ t.state.stopped
    → list_from n t buffer octets ≡ listed t buffer []
unfolding list_from
list_stopped zero t buffer octets h = refl
list_stopped (suc n) t buffer [] h = refl
list_stopped (suc n) t buffer (x ∷ octets) h =
    rw (ne_eqb (length (x ∷ octets)) 0 (λ e. omega arith), ne_eqb t.state.stopped 0 (λ e. omega arith))
