-- The bound on the calls of the reader never runs out: as many as there are octets is enough.
use Rattle.std.proofs.Common.{◌≡◌, ℕ, zero, suc, ◌≤◌, eqb, List, [], ◌∷◌, length, drop, sym, refl, ap, arith, length-drop}
use borrow.Author.Tests.{eqb-false}
use Rattle.rules.proofs.Walk.{by_cases}
use Rattle.fragments.specs.Link.{buffer_after}
use Rattle.link.specs.declared.Tally.{Tally}
use Rattle.link.specs.Listing.{listed, behind, is_over, answer_to, line_by, tally_after, list_from}

-- nothing is listed of no octets
pub list_none : (n : ℕ) (t : Tally) (buffer octets : List ℕ) → length octets ≤ 0
    → list_from n t buffer octets ≡ listed t buffer []
unfolding list_from
list_none zero t buffer octets h = refl
list_none (suc n) t buffer [] h = refl
list_none (suc n) t buffer (x ∷ octets) h = absurd (omega arith)

-- a bound of at least as many as there are octets gives the same listing as every other such bound
pub list_steps : (n m : ℕ) (t : Tally) (buffer octets : List ℕ) → length octets ≤ n → length octets ≤ m
    → list_from n t buffer octets ≡ list_from m t buffer octets
unfolding list_from
list_steps zero m t buffer octets h k = sym (list_none m t buffer octets h)
list_steps (suc n) zero t buffer octets h k = list_none (suc n) t buffer octets k
list_steps (suc n) (suc m) t buffer octets h k =
    let a = answer_to t buffer octets in
    let after = buffer_after t.state octets buffer in
    let l = length-drop a.taken octets in
    let rest = list_steps n m (tally_after t buffer octets) after (drop a.taken octets) in
    by_cases (is_over t octets) (λ over. rw over)
    (λ on. by_cases (eqb a.taken 0) (λ none. rw (on, none))
    (λ some.
    let more : a.taken ≡ 0 → ⊥ = eqb-false _ _ some in
    rw (on, some) (ap (behind (line_by t a.progress)) (rest (omega arith) (omega arith)))))
