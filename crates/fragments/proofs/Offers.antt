-- The calls for a list of fragments keep to the caller's part: they follow on one another, offer again what was not
-- taken, and go on until the fragments are taken or the run has stopped.
use mathlib.Core.Path.{◌≡◌, refl, sym, ap, ◌∙◌, subst}
use mathlib.Core.Bool.{Bool, true, false, not}
use mathlib.Core.Logic.{inl, inr, ⊎_elim}
use mathlib.Core.List.{List, [], ◌∷◌, ◌++◌}
use Prim.Native.Nat.{ℕ, zero, suc, ◌+◌, ◌≤◌, ◌<◌}
use native.Mathlib.Omega.{arith}
use borrow.Author.Tests.{le-leb, lt-leb, leb-true, leb-false}
use lib.Dec.{leb, eqb}
use lib.ListN.{length, drop, length-append, length-drop}
use lib.Seq.{drop-append-le, drop-append_seam}
use Rattle.rules.specs.Header.{longest_command}
use Rattle.rules.specs.Book.{joined}
use Rattle.rules.proofs.Walk.{by_cases}
use Rattle.fragments.specs.declared.State.{State}
use Rattle.fragments.specs.declared.Step.{Step}
use Rattle.fragments.specs.Link.{is_usable}
use Rattle.fragments.specs.Run.{Call, answer, left, OffersAgain, offered_next, calls_from}
use Rattle.fragments.proofs.Calls.{taken_within, taken_some, state_usable, buffer_long}
use Rattle.fragments.proofs.Follows.{Follows, stopped_from}
use Rattle.fragments.proofs.Middle.{Ends}

pub follows_for : (n : ℕ) (st : State) (buffer : List ℕ) (fragments : List (List ℕ))
    → Follows st buffer (calls_from n st buffer fragments)
unfolding calls_from
follows_for zero st buffer fragments = tt
follows_for (suc n) st buffer [] = tt
follows_for (suc n) st buffer (fragment ∷ fragments) =
    let c : Call = record { state = st; fragment = fragment; buffer = buffer } in
    (refl, (refl, follows_for n (answer c).state (left c) (offered_next (answer c) fragment fragments)))

calls_none : (n : ℕ) (st : State) (buffer : List ℕ) → calls_from n st buffer [] ≡ []
unfolding calls_from
calls_none zero st buffer = refl
calls_none (suc n) st buffer = refl

-- ---- what is offered after a call

module _ (a : Step) (fragment : List ℕ) (fragments : List (List ℕ)) (within : a.taken ≤ length fragment) where
  next_none : eqb a.state.stopped 0 ≡ false → offered_next a fragment fragments ≡ []
  next_none e = rw e

  module _ (on : eqb a.state.stopped 0 ≡ true) where
    next_all : length fragment ≤ a.taken → offered_next a fragment fragments ≡ fragments
    next_all h = rw (on, le-leb (length fragment) a.taken h)

    next_again : a.taken < length fragment → offered_next a fragment fragments ≡ drop a.taken fragment ∷ fragments
    next_again h = rw (on, lt-leb (length fragment) a.taken h)

    -- it is what was not taken
    next_joined : joined (offered_next a fragment fragments) ≡ drop a.taken (fragment ++ joined fragments)
    next_joined =
        by_cases (leb (length fragment) a.taken)
        (λ e.
        let h : length fragment ≤ a.taken = leb-true _ _ e in
        let n : length fragment ≡ a.taken = omega arith in
        ap joined (next_all h)
        ∙ sym (drop-append_seam fragment (joined fragments))
        ∙ ap (λ (n : ℕ). drop n (fragment ++ joined fragments)) n)
        (λ e.
        ap joined (next_again (leb-false _ _ e))
        ∙ sym (drop-append-le a.taken fragment (joined fragments) within))

    -- fragments and octets together are fewer than before
    next_fewer : (a.taken < length fragment → 1 ≤ a.taken)
        → length (offered_next a fragment fragments) + length (joined (offered_next a fragment fragments))
        ≤ length fragments + length (fragment ++ joined fragments)
    next_fewer some =
        let j = ap length next_joined in
        let l = length-drop a.taken (fragment ++ joined fragments) in
        let k = length-append fragment (joined fragments) in
        by_cases (leb (length fragment) a.taken)
        (λ e. let n = ap length (next_all (leb-true _ _ e)) in omega arith)
        (λ e.
        let h : a.taken < length fragment = leb-false _ _ e in
        let s = some h in
        let n : length (offered_next a fragment fragments) ≡ suc (length fragments) = ap length (next_again h) in
        omega arith)

-- ---- "offers again what was not taken"

pub offers_for : (n : ℕ) (st : State) (buffer : List ℕ) (fragments : List (List ℕ))
    → OffersAgain (joined fragments) (calls_from n st buffer fragments)
unfolding calls_from
offers_for zero st buffer fragments = tt
offers_for (suc n) st buffer [] = tt
offers_for (suc n) st buffer (fragment ∷ fragments) =
    let c : Call = record { state = st; fragment = fragment; buffer = buffer } in
    let a = answer c in
    let run = drop a.taken (fragment ++ joined fragments) in
    let more : List (List ℕ) = offered_next a fragment fragments in
    let within = taken_within st fragment buffer in
    let rest = offers_for n a.state (left c) more in (
      record { later = joined fragments; all = refl },
      by_cases (eqb a.state.stopped 0)
          (λ on.
          subst (λ (l : List ℕ). OffersAgain l (calls_from n a.state (left c) more))
          (next_joined a fragment fragments within on) rest)
          (λ off.
          subst (λ (cs : List Call). OffersAgain run cs)
          (sym (ap (calls_from n a.state (left c)) (next_none a fragment fragments within off)
          ∙ calls_none n a.state (left c)))
          tt),
    )

-- ---- until the fragments are taken or the run has stopped

module _ (st : State) (fragment buffer : List ℕ) (fragments : List (List ℕ)) where
  abbrev first : Call
  first = record { state = st; fragment = fragment; buffer = buffer }

  abbrev more : List (List ℕ)
  more = offered_next (answer first) fragment fragments

  within : (answer first).taken ≤ length fragment
  within = taken_within st fragment buffer

  module _ (cs : List Call) where
    ends_on : eqb (answer first).state.stopped 0 ≡ true → Ends (joined more) cs
        → Ends (fragment ++ joined fragments) (first ∷ cs)
    ends_on on =
        let j = ap length (next_joined (answer first) fragment fragments within on) in
        let l = length-drop (answer first).taken (fragment ++ joined fragments) in
        let k = length-append fragment (joined fragments) in
        let w = within in
        ⊎_elim (λ e. inl (omega arith)) (λ e. inr (ap (λ (b : Bool). stopped_from (not b) cs) on ∙ e))

    ends_off : eqb (answer first).state.stopped 0 ≡ false → cs ≡ [] → Ends (fragment ++ joined fragments) (first ∷ cs)
    ends_off off none =
        inr (ap (λ (b : Bool). stopped_from (not b) cs) off ∙ ap (stopped_from true) none)

pub ends_for : (n : ℕ) (st : State) (buffer : List ℕ) (fragments : List (List ℕ)) → longest_command ≤ length buffer
    → is_usable st buffer ≡ true → length fragments + length (joined fragments) ≤ n
    → Ends (joined fragments) (calls_from n st buffer fragments)
unfolding calls_from
ends_for zero st buffer [] room usable h = inl refl
ends_for zero st buffer (fragment ∷ fragments) room usable h = absurd (omega arith)
ends_for (suc n) st buffer [] room usable h = inl refl
ends_for (suc n) st buffer (fragment ∷ fragments) room usable h =
    let c : Call = record { state = st; fragment = fragment; buffer = buffer } in
    let a = answer c in
    let next : List (List ℕ) = offered_next a fragment fragments in
    let in-it = taken_within st fragment buffer in
    let cs = calls_from n a.state (left c) next in
    let long = buffer_long st fragment buffer in
    let rest = ends_for n a.state (left c) next in
    let none = calls_none n a.state (left c) in
    by_cases (eqb a.state.stopped 0)
    (λ on.
    let fewer = next_fewer a fragment fragments in-it on (taken_some st fragment buffer room usable) in
    ends_on st fragment buffer fragments cs on
    (rest (omega arith) (state_usable st fragment buffer room usable ∙ on) (omega arith)))
    (λ off.
    ends_off st fragment buffer fragments cs off
    (ap (calls_from n a.state (left c)) (next_none a fragment fragments in-it off) ∙ none))
