-- Laws of one line: the line for an answer of the reader, put into the text, and the tally after it.
use Rattle.std.proofs.Common.{◌≡◌, ℕ, ◌+◌, List, [], refl, ap, ◌∙◌, arith, eq-eqb, ne_eqb}
use Rattle.rules.specs.Lines.{cut_line, end_line}
use Rattle.lines.specs.Promise.{PutWithin, line_room}
use Rattle.fragments.specs.declared.Progress.{Progress}
use Rattle.fragments.specs.declared.Step.{Step}
use Rattle.fragments.specs.Link.{step, buffer_after}
use Rattle.fragments.proofs.Calls.{taken_within}
use Rattle.link.specs.declared.Tally.{Tally}
use Rattle.link.specs.declared.Link.{Link}
use Rattle.link.specs.Listing.{counted, line_by, tally_by, tally_after, last_line}
use Rattle.link.specs.Promise.{LineListed}

-- no line
pub no_line : (before : List ℕ) (at : ℕ) → PutWithin line_room before at [] at before
no_line before at = record { put = record { next = omega arith; octets = refl }; within = omega arith }

-- the line of an answer that is known
pub line_by_lem : (t : Tally) (progress p : Progress) → progress ≡ p → (before : List ℕ) (at r : ℕ) (after : List ℕ)
    → PutWithin line_room before at (line_by t p) r after → PutWithin line_room before at (line_by t progress) r after
line_by_lem t progress p e before at r after l = rw e l

-- what handing octets to the reader once gives
pub line_listed : (l : Link) (octets : List ℕ) (s : Step) → s ≡ step l.tally.state octets l.buffer → (l' : Link)
    → l'.tally ≡ tally_by l.tally (l.tally.state.held + s.taken) s.progress s.state
    → l'.buffer ≡ buffer_after l.tally.state octets l.buffer
    → PutWithin line_room l.text l.end (line_by l.tally s.progress) l'.end l'.text → LineListed l octets s.taken l'
unfolding tally_after
line_listed l octets s e l' tally held put =
    let t = l.tally in
    record {
      tally = tally ∙ ap (λ (a : Step). tally_by t (t.state.held + a.taken) a.progress a.state) e;
      taken = ap (λ (a : Step). a.taken) e;
      within = omega (arith, ap (λ (a : Step). a.taken) e, taken_within t.state octets l.buffer);
      put = rw e at put;
      held = held;
    }

-- the last line
module _ (t : Tally) where
  pub last_none : (t.state.stopped ≡ 0 → ⊥) → last_line t ≡ []
  unfolding last_line
  last_none h = rw (ne_eqb t.state.stopped 0 h)

  module _ (going : t.state.stopped ≡ 0) where
    pub last_end : t.state.held ≡ 0 → last_line t ≡ end_line t.commands t.accepted
    unfolding last_line
    last_end h = rw (eq-eqb t.state.stopped 0 going, eq-eqb t.state.held 0 h)

    pub last_cut : (t.state.held ≡ 0 → ⊥) → last_line t ≡ cut_line (counted (t.commands + 1)) t.offset
    unfolding last_line
    last_cut h = rw (eq-eqb t.state.stopped 0 going, ne_eqb t.state.held 0 h)
