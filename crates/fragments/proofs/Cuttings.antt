-- A run comes to the same in every cutting: what its length fields alone make of it. Above each theorem: the words of
-- request [7] that it meets, what carries it, and two wrong systems that it rules out. That the program gives the
-- answers of these calls is in the contract of `take`.
use mathlib.Core.Path.{◌≡◌, sym, ap, ◌∙◌, subst}
use mathlib.Core.Bool.{true}
use mathlib.Core.Logic.{inl, inr, ⊎_elim}
use mathlib.Core.List.{List, [], ◌∷◌}
use Prim.Native.Nat.{ℕ, ◌+◌, ◌≤◌}
use native.Mathlib.Omega.{arith}
use lib.ListN.{length}
use Rattle.rules.specs.Header.{longest_command}
use Rattle.rules.specs.Book.{joined}
use Rattle.fragments.specs.declared.State.{State}
use Rattle.fragments.specs.Link.{fresh, is_usable, held_in}
use Rattle.fragments.specs.Run.{Call, verdicts_of, taken_by, rest_of, Cutting, AsUncut, calls_from, calls_for}
use Rattle.fragments.proofs.Goals.{goal_bounds}
use Rattle.fragments.proofs.Usable.{fresh_usable}
use Rattle.fragments.proofs.Follows.{rest_from, stopped_from_lem, follows_of, keeps_of, hands_of, afresh_of, lends_of}
use Rattle.fragments.proofs.Middle.{Ends, AsUncutFrom, none_from}
use Rattle.fragments.proofs.Turns.{cut_from}
use Rattle.fragments.proofs.Offers.{follows_for, offers_for, ends_for}

-- ---- every cutting

-- nothing is held at a run's start
from_start : (run : List ℕ) (calls : List Call) → AsUncutFrom [] run calls → AsUncut run calls
from_start run calls a =
    let t = a.taken in
    record { verdicts = a.verdicts; taken = omega arith; rest = rest_from calls ∙ a.rest }

as_uncut : (run : List ℕ) (calls : List Call) → Cutting run calls → Ends run calls → AsUncutFrom [] run calls
as_uncut run [] k end = let g = (goal_bounds []).0 in none_from [] run (omega arith) end
as_uncut run (c ∷ cs) k end =
    let s : c.state ≡ fresh = k.starts_afresh in
    let usable : is_usable c.state c.buffer ≡ true = rw s (fresh_usable c.buffer) in
    subst (λ (l : List ℕ). AsUncutFrom l run (c ∷ cs)) (ap (λ (t : State). held_in t c.buffer) s)
    (cut_from (c ∷ cs) c.state c.buffer run k.lends_enough.0 usable
    (follows_of c cs k.keeps_buffer k.hands_back) k.offers_again end)

-- "Provided that the caller starts afresh, always lends the same buffer of at least 16,384 octets, hands back the
-- state, offers again what was not taken and writes nothing to the buffer, every cutting of one run, empty fragments
-- too, gives the same verdicts (unfinished and 7009 apart), octets taken in total and unfinished rest as the run
-- uncut." And "Demand 2 reads per command found": the verdicts uncut are those of the commands that the length fields
-- cut off.
-- Carried by cut_from (Turns): from every state in the middle, by the calls that are left.
-- Ruled out: a reader that loses the octets behind a command in a fragment; one whose length field is read from a
-- fragment's start.
pub cutting_as_uncut : (run : List ℕ) (calls : List Call) → Cutting run calls → AsUncut run calls
cutting_as_uncut run calls k =
    from_start run calls
    (as_uncut run calls k (⊎_elim (λ e. inl e) (λ e. inr (sym (stopped_from_lem calls) ∙ e)) k.to_the_end))

-- what two cuttings of one run have in common
abbrev pub Alike : List Call → List Call → Type 0
Alike calls calls' =
    (verdicts_of calls ≡ verdicts_of calls') × ((taken_by calls ≡ taken_by calls') × (rest_of calls ≡ rest_of calls'))

alike : (run : List ℕ) (calls calls' : List Call) → AsUncut run calls → AsUncut run calls' → Alike calls calls'
alike run calls calls' a b =
    (a.verdicts ∙ sym b.verdicts, (a.taken ∙ sym b.taken, a.rest ∙ sym b.rest))

-- "every cutting of one run ... gives the same": said of two cuttings.
-- Carried by cutting_as_uncut.
-- Ruled out: a reader whose unfinished rest goes by where a fragment ends; one that tells a refusal at the fourth octet
-- once for each fragment that comes after it.
pub cuttings_alike : (run : List ℕ) (calls calls' : List Call) → Cutting run calls → Cutting run calls'
    → Alike calls calls'
cuttings_alike run calls calls' k k' =
    alike run calls calls' (cutting_as_uncut run calls k) (cutting_as_uncut run calls' k')

-- ---- lists of fragments

-- as many calls as there are fragments and octets, or more
cutting_in : (n : ℕ) (buffer : List ℕ) (fragments : List (List ℕ)) → longest_command ≤ length buffer
    → length fragments + length (joined fragments) ≤ n → Cutting (joined fragments) (calls_from n fresh buffer fragments)
cutting_in n buffer fragments room enough =
    let calls = calls_from n fresh buffer fragments in
    let f = follows_for n fresh buffer fragments in
    record {
      starts_afresh = afresh_of buffer calls f;
      keeps_buffer = keeps_of fresh buffer calls f;
      lends_enough = lends_of fresh buffer calls room f;
      hands_back = hands_of fresh buffer calls f;
      offers_again = offers_for n fresh buffer fragments;
      to_the_end =
          ⊎_elim (λ e. inl e) (λ e. inr (stopped_from_lem calls ∙ e))
          (ends_for n fresh buffer fragments room (fresh_usable buffer) enough);
    }

-- "A capture comes in fragments that end anywhere": every list of fragments makes calls that are a cutting of its
-- octets, so the proviso can be kept for each, and the theorem above is not about nothing.
-- Carried by follows_for, offers_for and ends_for (Offers).
-- Ruled out: a reader that takes nothing of a fragment that it does not refuse, so that it is offered for ever; one
-- whose state after a command cannot be handed back.
pub fragments_are_a_cutting : (buffer : List ℕ) (fragments : List (List ℕ)) → longest_command ≤ length buffer
    → Cutting (joined fragments) (calls_for buffer fragments)
fragments_are_a_cutting buffer fragments room = cutting_in _ buffer fragments room (omega arith)

-- Every list of fragments, empty ones too, comes to what its octets give uncut.
-- Carried by cutting_as_uncut and fragments_are_a_cutting.
-- Ruled out: a reader that tells unfinished for a fragment that ends with a command; one that takes an empty fragment
-- for the end of the run.
pub any_cutting : (buffer : List ℕ) (fragments : List (List ℕ)) → longest_command ≤ length buffer
    → AsUncut (joined fragments) (calls_for buffer fragments)
any_cutting buffer fragments room =
    cutting_as_uncut (joined fragments) (calls_for buffer fragments) (fragments_are_a_cutting buffer fragments room)

-- Two lists of fragments of the same octets come to the same, each in a buffer of its own.
-- Carried by any_cutting.
-- Ruled out: a reader whose verdicts go by what the buffer held before; one that wants a length field whole in one
-- fragment.
pub same_for_all_cuttings : (buffer buffer' : List ℕ) (fragments fragments' : List (List ℕ))
    → longest_command ≤ length buffer → longest_command ≤ length buffer' → joined fragments ≡ joined fragments'
    → Alike (calls_for buffer fragments) (calls_for buffer' fragments')
same_for_all_cuttings buffer buffer' fragments fragments' room room' e =
    alike (joined fragments) (calls_for buffer fragments) (calls_for buffer' fragments')
    (any_cutting buffer fragments room)
    (subst (λ (run : List ℕ). AsUncut run (calls_for buffer' fragments')) (sym e) (any_cutting buffer' fragments' room'))
