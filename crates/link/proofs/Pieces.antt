-- Laws of a piece's lines: what was listed so far, the next line, and the ends of the loop.
use Rattle.std.specs.declared.io.Error.{Error}
use Rattle.std.proofs.Common.{◌≡◌, Result, Ok, Err, ℕ, zero, suc, ◌+◌, ◌-◌, ◌*◌, ◌≤◌, true, eqb, List, [], ◌++◌, length, take, drop, sym, refl, ap, ◌∙◌, append_assoc, append-nil, arith, length-drop, take_all, eq-eqb, ne_eqb}
use Rattle.lines.proofs.Text.{joined, put-length}
use Rattle.rules.proofs.Tests.{or_right}
use Rattle.lines.specs.Promise.{Put, line_room}
use Rattle.fragments.specs.Link.{buffer_after}
use Rattle.link.specs.declared.Tally.{Tally}
use Rattle.link.specs.declared.Link.{Link}
use Rattle.link.specs.Listing.{Listed, listed, behind, answer_to, line_by, tally_after, list_from, list_piece}
use Rattle.link.specs.Promise.{LineListed, PieceListed, LastPut, Printed, piece_room, text_room}
use Rattle.link.proofs.Steps.{list_steps}

-- ---- one call of the reader

module _ (t : Tally) (b octets : List ℕ) where
  -- what follows a call
  abbrev next : ℕ → Listed
  next n =
      list_from n (tally_after t b octets) (buffer_after t.state octets b) (drop (answer_to t b octets).taken octets)

  pub list_none : length octets ≡ 0 → list_piece t b octets ≡ listed t b []
  unfolding list_from
  list_none e = rw e

  pub list_stopped : (t.state.stopped ≡ 0 → ⊥) → (n : ℕ) → list_from n t b octets ≡ listed t b []
  unfolding list_from
  list_stopped h zero = refl
  list_stopped h (suc n) = rw (ne_eqb t.state.stopped 0 h, or_right (eqb (length octets) 0) true refl)

  module _ (some : length octets ≡ 0 → ⊥) (going : t.state.stopped ≡ 0) (n : ℕ) where
    pub list_stuck : (answer_to t b octets).taken ≡ 0
        → list_from (suc n) t b octets
        ≡ listed (tally_after t b octets) (buffer_after t.state octets b)
        (line_by t (answer_to t b octets).progress ++ [])
    unfolding list_from
    list_stuck e =
        rw (ne_eqb (length octets) 0 some, eq-eqb t.state.stopped 0 going, eq-eqb (answer_to t b octets).taken 0 e)

    pub list_more : ((answer_to t b octets).taken ≡ 0 → ⊥)
        → list_from (suc n) t b octets ≡ behind (line_by t (answer_to t b octets).progress) (next n)
    unfolding list_from
    list_more e =
        rw (ne_eqb (length octets) 0 some, eq-eqb t.state.stopped 0 going, ne_eqb (answer_to t b octets).taken 0 e)

-- what is left of a piece
pub all_left : (left : List ℕ) (n : ℕ) → take (length left - n) (drop n left) ≡ drop n left
all_left left n = take_all (length left - n) (drop n left) (omega (arith, length-drop n left))

nonzero : (n : ℕ) → (n ≡ 0 → ⊥) → 1 ≤ n
nonzero zero h = absurd (h refl)
nonzero (suc n) h = omega arith

behind_both : (xs ys : List ℕ) (l : Listed) → behind (xs ++ ys) l ≡ behind xs (behind ys l)
behind_both xs ys l = ap (listed l.tally l.buffer) (append_assoc xs ys l.text)

-- ---- a piece, up to a place

-- the text so far, and what is still to be listed from there
pub record SoFar (l₀ : Link) (piece : List ℕ) (l : Link) (left : List ℕ) : Type 0 where
  pub text : List ℕ
  pub put : Put l₀.text 0 text l.end l.text
  pub few : l.end + line_room * length left ≤ line_room * length piece
  pub rest : behind text (list_piece l.tally l.buffer left) ≡ list_piece l₀.tally l₀.buffer piece

-- where a piece starts, the text of the one before is gone
abbrev pub emptied : Link → Link
emptied l = record { tally = l.tally; buffer = l.buffer; log = l.log; text = l.text; end = 0 }

-- the whole text, where nothing is to be listed any more
whole_text : (l₀ : Link) (piece : List ℕ) (l : Link) (text : List ℕ) → Put l₀.text 0 text l.end l.text
    → l.end ≤ text_room → listed l.tally l.buffer text ≡ list_piece l₀.tally l₀.buffer piece → PieceListed l₀ piece l
whole_text l₀ piece l text put room e = record {
  tally = ap (λ (x : Listed). x.tally) e;
  held = ap (λ (x : Listed). x.buffer) e;
  put = rw (sym (ap (λ (x : Listed). x.text) e)) put;
  within = room;
}

module _ (l₀ : Link) (piece : List ℕ) (l : Link) (left : List ℕ) (s : SoFar (emptied l₀) piece l left)
    (short : length piece ≤ piece_room)
  where
    abbrev t : Tally
    t = l.tally

    abbrev b : List ℕ
    b = l.buffer

    -- nothing is listed of what is left
    listed_all : list_piece t b left ≡ listed t b [] → PieceListed l₀ piece l
    listed_all e =
        whole_text l₀ piece l s.text s.put (omega (arith, s.few, short))
        (ap (listed t b) (sym (append-nil s.text)) ∙ ap (behind s.text) (sym e) ∙ s.rest)

    pub ends_at_end : length left ≡ 0 → PieceListed l₀ piece l
    ends_at_end h = listed_all (list_none t b left h)

    pub ends_stopped : (t.state.stopped ≡ 0 → ⊥) → PieceListed l₀ piece l
    ends_stopped h = listed_all (list_stopped t b left h (length left))

    module _ (some : length left ≡ 0 → ⊥) (going : t.state.stopped ≡ 0) (count : ℕ) (l' : Link)
        (line : LineListed l left count l')
      where
        abbrev put_line : List ℕ
        put_line = line_by t (answer_to t b left).progress

        text' : Put l₀.text 0 (s.text ++ put_line) l'.end l'.text
        text' = joined s.put line.put.put

        -- as many calls as octets are left
        steps : list_piece t b left ≡ list_from (suc (length left - 1)) t b left
        steps = ap (λ (n : ℕ). list_from n t b left) (omega (arith, nonzero (length left) some))

        pub ends_stuck : count ≡ 0 → PieceListed l₀ piece l'
        ends_stuck e =
            let none = sym line.taken ∙ e in
            whole_text l₀ piece l' (s.text ++ put_line) text'
            (omega (arith, s.few, line.put.within, short, nonzero (length left) some))
            (rw (line.tally, line.held) (
            ap (λ (x : List ℕ). listed (tally_after t b left) (buffer_after t.state left b) (s.text ++ x))
            (sym (append-nil put_line))
            ∙ ap (behind s.text) (sym (steps ∙ list_stuck t b left some going (length left - 1) none))
            ∙ s.rest))

        pub so_far_more : (count ≡ 0 → ⊥) → SoFar (emptied l₀) piece l' (drop count left)
        so_far_more e =
            let some-taken : (answer_to t b left).taken ≡ 0 → ⊥ = λ z. e (line.taken ∙ z) in
            let n = length left - 1 in
            let long = length-drop count left in
            record {
              text = s.text ++ put_line;
              put = text';
              few = omega (arith, s.few, line.put.within, line.within, long, nonzero count e);
              rest =
                  rw (line.tally, line.held)
                  (ap (behind (s.text ++ put_line))
                  (list_steps (length (drop count left)) n (tally_after t b left) (buffer_after t.state left b)
                  (drop count left) (omega arith) (omega (arith, long, nonzero count e)))
                  ∙ ap
                  (λ (m : ℕ).
                  behind (s.text ++ put_line)
                  (list_from n (tally_after t b left) (buffer_after t.state left b) (drop m left)))
                  line.taken
                  ∙ behind_both s.text put_line (next t b left n)
                  ∙ ap (behind s.text) (sym (steps ∙ list_more t b left some going n some-taken))
                  ∙ s.rest);
            }

-- what is put for octets that were read
pub printed_lines : (input : Result ℕ Error) (count : ℕ) → input ≡ Ok count → (count ≡ 0 → ⊥) → (l : Link)
    (piece : List ℕ) (l' : Link) → PieceListed l (take count piece) l' → Printed input l piece l'
printed_lines input count e some l piece l' p =
    record { put = rw (e, ne_eqb count 0 some) p; within = p.within; long = put-length p.put }

-- after a read that failed nothing is put
pub printed_none : (input : Result ℕ Error) (e : Error) → input ≡ Err e → (l : Link) (piece : List ℕ) (l' : Link)
    → LastPut [] l l' → Printed input l piece l'
printed_none input e is l piece l' p = record { put = rw is p; within = p.within; long = put-length p.put }
