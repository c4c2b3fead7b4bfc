-- The calls of the reader for a piece of a stream: what they print, and what is printed afterwards, are the lines that
-- were left to print before the piece.
use Rattle.std.proofs.Common.{◌≡◌, ℕ, zero, suc, ◌+◌, ◌-◌, ◌<◌, ◌≤◌, Bool, true, false, cond, eqb, ltb, List, [], ◌∷◌, ◌++◌, length, take, drop, sym, ap, ◌∙◌, append_assoc, append-nil, arith, length-drop, ltb-false, ltb-true, eq-eqb}
use lib.Seq.{drop-length}
use Rattle.rules.specs.declared.Verdict.{Verdict}
use Rattle.rules.specs.Header.{length_field}
use Rattle.rules.specs.Command.{command_verdict}
use Rattle.rules.specs.Lines.{command_line, stopped_line}
use Rattle.rules.proofs.Walk.{by_cases}
use Rattle.fragments.specs.declared.State.{State}
use Rattle.fragments.specs.declared.Progress.TheVariants.{Command}
use Rattle.fragments.specs.declared.Step.{Step}
use Rattle.fragments.specs.Link.{state, fresh, field_end, is_length, goal, length_refusal, held_in, buffer_after}
use Rattle.fragments.proofs.Goals.{goal_field, goal_refused, goal_bounds}
use Rattle.fragments.proofs.Usable.{usable_short}
use Rattle.fragments.proofs.Calls.{goal_over, step_unfinished, step_command, step_refusal}
use Rattle.link.specs.declared.Tally.{Tally}
use Rattle.link.specs.Listing.{counted, tally, Listed, answer_to, line_by, tally_by, list_from}
use Rattle.link.proofs.Steps.{list_none}
use Rattle.link.proofs.Middle.{Going, lines_left, list_turn, list_stopped}
use Rattle.link.proofs.Left.{waiting, past, ordinal_small, waiting_going, left_unfinished, left_command, past_is, past_going, left_stopped}

-- a piece's text, and what is printed afterwards where the stream has not stopped
abbrev text_then : (Tally → List ℕ → List ℕ) → Listed → List ℕ
text_then next l = l.text ++ cond (eqb l.tally.state.stopped 0) (next l.tally l.buffer) []

-- it is what is left to print, provided that this holds afterwards
module _ (over : Bool) (next : Tally → List ℕ → List ℕ) (later : List ℕ)
    (prints : (t : Tally) (buffer : List ℕ) → Going t buffer (length later)
    → next t buffer ≡ lines_left over t buffer later)
  where
    abbrev Claim : ℕ → Type 0
    Claim n = (t : Tally) (buffer octets : List ℕ) → length octets ≤ n → Going t buffer (length (octets ++ later))
        → text_then next (list_from n t buffer octets) ≡ lines_left over t buffer (octets ++ later)

    none_then : (n : ℕ) (t : Tally) (buffer octets : List ℕ) → length octets ≤ 0
        → Going t buffer (length (octets ++ later))
        → text_then next (list_from n t buffer octets) ≡ lines_left over t buffer (octets ++ later)
    none_then n t buffer [] h going =
        let on = eq-eqb t.state.stopped 0 (usable_short t.state buffer going.room going.usable).goes_on in
        ap (text_then next) (list_none n t buffer [] h) ∙ rw on (prints t buffer going)
    none_then n t buffer (x ∷ octets) h going = absurd (omega arith)

    -- ---- one call, then the law for fewer octets

    module _ (n : ℕ) (fewer : Claim n) (t : Tally) (buffer octets : List ℕ) (fit : length octets ≤ suc n)
        (some : 1 ≤ length octets) (going : Going t buffer (length (octets ++ later)))
      where
        abbrev st : State
        st = t.state

        abbrev here : List ℕ
        here = held_in st buffer ++ octets

        abbrev after : List ℕ
        after = buffer_after st octets buffer

        abbrev Goal : Type 0
        Goal = text_then next (list_from (suc n) t buffer octets) ≡ lines_left over t buffer (octets ++ later)

        -- the line for the answer, then the listing of what was not taken
        abbrev onward : Step → Listed
        onward a =
            list_from n (tally_by t (st.held + a.taken) a.progress a.state) after (drop a.taken octets)

        turn : (a : Step) → answer_to t buffer octets ≡ a → 1 ≤ a.taken
            → text_then next (list_from (suc n) t buffer octets) ≡ line_by t a.progress ++ text_then next (onward a)
        turn a is taken =
            let on = (usable_short st buffer going.room going.usable).goes_on in
            ap (text_then next) (list_turn n t buffer octets a is some on taken)
            ∙ append_assoc (line_by t a.progress) (onward a).text _

        unfinished_then : length here < goal here → Goal
        unfinished_then less =
            turn _ (step_unfinished st octets buffer going.room going.usable less) some
            ∙ ap (λ (l : List ℕ). text_then next (list_from n (waiting t (length here)) after l)) (drop-length octets)
            ∙ none_then n (waiting t (length here)) after [] (omega arith)
            (waiting_going t buffer octets later going less)
            ∙ left_unfinished t buffer octets later going less over

        module _ (reached : goal here ≤ length here) where
          abbrev size : ℕ
          size = length_field here

          above : st.held < goal here
          above = goal_over st octets buffer going.room going.usable

          four : field_end ≤ length here
          four = let b = (goal_bounds here).0 in omega arith

          ordinal : counted (t.commands + 1) ≡ t.commands + 1
          ordinal = let h = four in ordinal_small t buffer octets later going (omega arith)

          command_then : is_length size ≡ true → Goal
          command_then e =
              let o = above in
              let g = goal_field here four e in
              let rest : List ℕ = drop (size - st.held) octets in
              let d = length-drop (size - st.held) octets in
              let v : Verdict = command_verdict (take size here) in
              let line : ℕ → List ℕ = λ k. command_line k t.offset v in
              let counting : Tally = tally_by t (st.held + (size - st.held)) (Command v) fresh in
              turn _ (step_command st octets buffer going.room going.usable reached e) (omega arith)
              ∙ ap (λ (k : ℕ). line k ++ text_then next (list_from n counting after rest)) ordinal
              ∙ ap (λ (u : Tally). line (t.commands + 1) ++ text_then next (list_from n u after rest))
              (past_is t buffer octets later going reached e)
              ∙ ap (λ (l : List ℕ). line (t.commands + 1) ++ l)
              (fewer (past t size v) after rest (omega arith) (past_going t buffer octets later going reached e))
              ∙ sym (left_command t buffer octets later going reached e over)

          refusal_then : is_length size ≡ false → Goal
          refusal_then e =
              let o = above in
              let g = goal_refused here four e in
              let rest : List ℕ = drop (field_end - st.held) octets in
              let stopping : Tally = tally t.commands t.accepted t.offset (state field_end 1) in
              let line : ℕ → List ℕ = λ k. stopped_line k t.offset (length_refusal size) in
              turn _ (step_refusal st octets buffer going.room going.usable reached e) (omega arith)
              ∙ ap (λ (l : Listed). line (counted (t.commands + 1)) ++ text_then next l)
              (list_stopped n stopping after rest (omega arith))
              ∙ append-nil (line (counted (t.commands + 1)))
              ∙ ap line ordinal
              ∙ sym (left_stopped t buffer octets later going reached e over)

        call_then : Goal
        call_then =
            by_cases (ltb (length here) (goal here)) (λ less. unfinished_then (ltb-true _ _ less))
            (λ more.
            let reached : goal here ≤ length here = ltb-false _ _ more in
            by_cases (is_length (length_field here)) (command_then reached) (refusal_then reached))

    -- ---- every piece

    pub piece_then : (n : ℕ) → Claim n
    piece_then zero t buffer octets h going = none_then zero t buffer octets h going
    piece_then (suc n) t buffer octets h going =
        by_cases (ltb 0 (length octets))
        (λ some. call_then n (piece_then n) t buffer octets h (ltb-true _ _ some) going)
        (λ none. none_then (suc n) t buffer octets (ltb-false _ _ none) going)
