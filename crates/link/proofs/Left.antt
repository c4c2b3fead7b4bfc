-- What is left to print of a stream, by what the octets of a piece come to with those held: as much as before where a
-- command stays unfinished; a command's line and what is left behind it; or the line of a stream that stops.
use Rattle.std.proofs.Common.{◌≡◌, ℕ, ◌+◌, ◌-◌, ◌^◌, ◌<◌, ◌≤◌, Bool, true, false, List, ◌++◌, length, take, drop, sym, ap, ◌∙◌, append_assoc, arith, length-append, length-drop}
use lib.Seq.{take-append-le, drop-append-le, drop-append-add}
use Rattle.rules.specs.declared.Verdict.{Verdict}
use Rattle.rules.specs.Header.{length_field, longest_command}
use Rattle.rules.specs.Command.{command_verdict}
use Rattle.rules.specs.Verdict.{is_accepted}
use Rattle.rules.specs.Lines.{command_line, stopped_line}
use Rattle.rules.specs.Book.{acceptance}
use Rattle.rules.proofs.Walk.{by_cases}
use Rattle.fragments.specs.declared.State.{State}
use Rattle.fragments.specs.declared.Progress.TheVariants.{Command}
use Rattle.fragments.specs.Link.{state, fresh, field_end, is_length, goal, length_refusal, held_in, buffer_after}
use Rattle.fragments.specs.Run.{is_whole}
use Rattle.fragments.proofs.Goals.{field_first, length-bounds, goal_field, goal_bounds}
use Rattle.fragments.proofs.Usable.{usable_short, fresh_usable}
use Rattle.fragments.proofs.Calls.{offered_long, goal_over, buffer_long, unfinished_held, unfinished_usable}
use Rattle.fragments.proofs.Uncut.{is_whole_lem}
use Rattle.link.specs.declared.Tally.{Tally}
use Rattle.link.specs.Listing.{counted, tally, tally_by}
use Rattle.link.proofs.Lines.{lines_uncut, lines_first, lines_stopped}
use Rattle.link.proofs.Middle.{counted_small, Going, lines_left}

-- the tally with this many octets held, and the one behind a command of this size
abbrev pub waiting : Tally → ℕ → Tally
waiting t held = tally t.commands t.accepted t.offset (state held 0)

abbrev pub past : Tally → ℕ → Verdict → Tally
past t size v = tally (t.commands + 1) (t.accepted + acceptance v) (t.offset + size) fresh

accepted_once : (v : Verdict) → acceptance v ≤ 1
accepted_once v = by_cases (is_accepted v) (λ e. rw e (omega arith)) (λ e. rw e (omega arith))

module _ (t : Tally) (buffer octets later : List ℕ) (going : Going t buffer (length (octets ++ later))) where
  abbrev st : State
  st = t.state

  abbrev held : List ℕ
  held = held_in st buffer

  -- the octets from the command's start on, and with those that come later
  abbrev here : List ℕ
  here = held ++ octets

  abbrev all : List ℕ
  all = held ++ (octets ++ later)

  abbrev after : List ℕ
  after = buffer_after st octets buffer

  after_room : longest_command ≤ length after
  after_room =
      let r = going.room in
      let l = buffer_long st octets buffer in
      omega arith

  here_long : length here ≡ st.held + length octets
  here_long = offered_long st octets buffer going.room going.usable

  all_is : all ≡ here ++ later
  all_is = sym (append_assoc held octets later)

  -- the stream ends below 2^64
  all_below_lem : t.offset + (length here + length later) < 2 ^ 64
  all_below_lem =
      let w = going.within in
      let h = here_long in
      let m = length-append octets later in
      omega arith

  pub ordinal_small : 1 ≤ length here → counted (t.commands + 1) ≡ t.commands + 1
  ordinal_small some =
      let f = going.few in
      let w = all_below_lem in
      counted_small (t.commands + 1) (omega arith)

  -- ---- unfinished

  module _ (less : length here < goal here) where
    pub waiting_going : Going (waiting t (length here)) after (length later)
    waiting_going =
        let w = all_below_lem in
        record {
          room = after_room;
          usable = unfinished_usable st octets buffer going.room going.usable less;
          few = going.few;
          fewer = going.fewer;
          within = omega arith;
        }

    pub left_unfinished : (over : Bool)
        → lines_left over (waiting t (length here)) after later ≡ lines_left over t buffer (octets ++ later)
    left_unfinished over =
        ap (λ (l : List ℕ). lines_uncut over t.commands t.accepted t.offset (l ++ later))
        (unfinished_held st octets buffer going.room going.usable less)
        ∙ ap (lines_uncut over t.commands t.accepted t.offset) (sym all_is)

  -- ---- the goal is reached

  module _ (reached : goal here ≤ length here) where
    abbrev size : ℕ
    size = length_field here

    above : st.held < goal here
    above = goal_over st octets buffer going.room going.usable

    four : field_end ≤ length here
    four = let b = (goal_bounds here).0 in omega arith

    all_field : length_field all ≡ size
    all_field = ap length_field all_is ∙ field_first here later four

    all_long : length all ≡ length here + length later
    all_long = ap length all_is ∙ length-append here later

    -- a command
    module _ (e : is_length size ≡ true) where
      abbrev v : Verdict
      v = command_verdict (take size here)

      abbrev taken : ℕ
      taken = size - st.held

      abbrev rest : List ℕ
      rest = drop taken octets

      goal_is : goal here ≡ size
      goal_is = goal_field here four e

      all_whole : is_whole all ≡ true
      all_whole =
          let g = goal_is in
          let l = all_long in
          let f = all_field in
          is_whole_lem all (rw all_field e) (omega arith)

      all_first : take (length_field all) all ≡ take size here
      all_first =
          let g = goal_is in
          ap (λ (n : ℕ). take n all) all_field ∙ ap (take size) all_is ∙ take-append-le size here later (omega arith)

      all_behind : drop (length_field all) all ≡ rest ++ later
      all_behind =
          let g = goal_is in
          let o = above in
          let h = (usable_short st buffer going.room going.usable).many in
          let l = here_long in
          let n : size ≡ length held + taken = omega arith in
          ap (λ (n : ℕ). drop n all) (all_field ∙ n)
          ∙ drop-append-add held (octets ++ later) taken
          ∙ drop-append-le taken octets later (omega arith)

      pub left_command : (over : Bool)
          → lines_left over t buffer (octets ++ later)
          ≡ command_line (t.commands + 1) t.offset v ++ lines_left over (past t size v) after (rest ++ later)
      left_command over =
          lines_first over t.commands t.accepted t.offset all all_whole ∙ rw (all_first, all_behind, all_field)

      -- no count begins anew
      pub past_is : tally_by t (st.held + taken) (Command v) fresh ≡ past t size v
      past_is =
          let f = going.few in
          let g = going.fewer in
          let w = all_below_lem in
          let a = accepted_once v in
          let o = above in
          let i = goal_is in
          let n : st.held + taken ≡ size = omega arith in
          rw (
            ordinal_small (omega arith),
            counted_small (t.accepted + acceptance v) (omega arith),
            n,
            counted_small (t.offset + size) (omega arith),
          )

      pub past_going : Going (past t size v) after (length (rest ++ later))
      past_going =
          let f = going.few in
          let g = going.fewer in
          let w = all_below_lem in
          let a = accepted_once v in
          let o = above in
          let b = (length-bounds size e).0 in
          let i = goal_is in
          let l = here_long in
          let k = length-append rest later in
          let d = length-drop taken octets in
          record {
            room = after_room;
            usable = fresh_usable after;
            few = omega arith;
            fewer = omega arith;
            within = omega arith;
          }

    -- a refusal
    pub left_stopped : is_length size ≡ false → (over : Bool)
        → lines_left over t buffer (octets ++ later) ≡ stopped_line (t.commands + 1) t.offset (length_refusal size)
    left_stopped e over =
        let l = all_long in
        let h = four in
        lines_stopped over t.commands t.accepted t.offset all (omega arith) (rw all_field e)
        ∙ ap (λ (n : ℕ). stopped_line (t.commands + 1) t.offset (length_refusal n)) all_field
