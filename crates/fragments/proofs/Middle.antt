-- A run in calls, seen from its middle: octets are held, and calls follow on. What they come to is what the octets held
-- and those still to come give uncut.
use mathlib.Core.Path.{◌≡◌, sym, ap, ◌∙◌, subst}
use mathlib.Core.Bool.{true, false, not}
use mathlib.Core.Logic.{◌⊎◌, inl, inr, ⊎_elim}
use mathlib.Core.List.{List, [], ◌∷◌, ◌++◌, append_assoc, append-nil}
use Prim.Native.Nat.{ℕ, ◌+◌, ◌≤◌, ◌<◌}
use native.Mathlib.Omega.{arith}
use lib.Dec.{eqb}
use lib.ListN.{length, drop, length-append, length-drop}
use Rattle.rules.specs.Header.{longest_command}
use Rattle.fragments.specs.declared.State.{State}
use Rattle.fragments.specs.declared.Step.{Step}
use Rattle.fragments.specs.Link.{is_usable, goal, held_in}
use Rattle.fragments.specs.Run.{Call, answer, left, verdicts_of, taken_by, verdicts_uncut, rest_uncut, taken_uncut, Begins, OffersAgain}
use Rattle.fragments.proofs.Usable.{usable_short}
use Rattle.fragments.proofs.Calls.{offered, buffer_long}
use Rattle.fragments.proofs.Uncut.{verdicts_short, rest_short, taken_short}
use Rattle.fragments.proofs.Follows.{Follows, held_from, stopped_from}

-- the run is taken, or it has stopped
abbrev pub Ends : List ℕ → List Call → Type 0
Ends run calls = (taken_by calls ≡ length run) ⊎ (stopped_from false calls ≡ true)

pub record AsUncutFrom (held run : List ℕ) (calls : List Call) : Type 0 where
  pub verdicts : verdicts_of calls ≡ verdicts_uncut (held ++ run)
  pub taken : length held + taken_by calls ≡ taken_uncut (held ++ run)
  pub rest : held_from held calls ≡ rest_uncut (held ++ run)

-- the claim for calls from every state that can be gone on with
abbrev pub Claim : List Call → Type 0
Claim calls =
    (st : State) (buffer run : List ℕ) → longest_command ≤ length buffer → is_usable st buffer ≡ true
    → Follows st buffer calls → OffersAgain run calls → Ends run calls → AsUncutFrom (held_in st buffer) run calls

-- ---- no call: nothing is left of the run

nothing_left : (held run : List ℕ) → length held < goal held → 0 ≡ length run → AsUncutFrom held run []
nothing_left held [] h e =
    record {
      verdicts = sym (rw (append-nil held) (verdicts_short held h));
      taken = rw (append-nil held) (let t = taken_short held h in omega arith);
      rest = sym (rw (append-nil held) (rest_short held h));
    }
nothing_left held (x ∷ xs) h e = absurd (omega arith)

pub none_from : (held run : List ℕ) → length held < goal held → Ends run [] → AsUncutFrom held run []
none_from held run h =
    ⊎_elim (nothing_left held run h) (λ e. let z : ◌≡◌ {A = ℕ} 0 1 = cc in absurd (omega arith))

pub no_calls : Claim []
no_calls st buffer run room usable f o end =
    let s = usable_short st buffer room usable in
    let l = s.many in
    let b = s.below in
    none_from (held_in st buffer) run (omega arith) end

-- ---- a call, and those that follow on it

pub record Turn (c : Call) (cs : List Call) (run : List ℕ) : Type 0 where
  pub room : longest_command ≤ length c.buffer
  pub usable : is_usable c.state c.buffer ≡ true
  pub follows : Follows (answer c).state (left c) cs
  pub begins : Begins c.fragment run
  pub offers : OffersAgain (drop (answer c).taken run) cs
  pub ends : Ends run (c ∷ cs)
  pub claim : Claim cs

-- the octets held before the call, and with the fragment
abbrev pub held_at : Call → List ℕ
held_at c = held_in c.state c.buffer

abbrev pub offered_at : Call → List ℕ
offered_at c = offered c.state c.fragment c.buffer

module _ (c : Call) (cs : List Call) (run : List ℕ) (turn : Turn c cs run) where
  abbrev later : List ℕ
  later = turn.begins.later

  pub held_many : length (held_at c) ≡ c.state.held
  held_many = (usable_short c.state c.buffer turn.room turn.usable).many

  -- all from the octets held on
  pub all_is : held_at c ++ run ≡ offered_at c ++ later
  all_is =
      ap (λ (l : List ℕ). held_at c ++ l) turn.begins.all ∙ sym (append_assoc (held_at c) c.fragment later)

  pub all_long : length (held_at c ++ run) ≡ length (offered_at c) + length later
  all_long = ap length all_is ∙ length-append (offered_at c) later

  pub run_long : length run ≡ length c.fragment + length later
  run_long = ap length turn.begins.all ∙ length-append c.fragment later

  pub left_room : longest_command ≤ length (left c)
  left_room =
      let l = buffer_long c.state c.fragment c.buffer in
      let r = turn.room in
      omega arith

  -- the calls that follow, where the answer to this one does not stop the run
  module _ (t : Step) (is : answer c ≡ t) (on : t.state.stopped ≡ 0) (usable : is_usable t.state (left c) ≡ true)
      (rest : List ℕ) (rest_is : drop t.taken run ≡ rest) (within : t.taken ≤ length run)
    where
      rest_ends : Ends rest cs
      rest_ends =
          let l = length-drop t.taken run in
          let k = ap length rest_is in
          let n = ap (λ (t : Step). t.taken) is in
          let z : (answer c).state.stopped ≡ 0 = ap (λ (t : Step). t.state.stopped) is ∙ on in
          ⊎_elim (λ e. inl (omega arith)) (λ e. inr (ap (λ (n : ℕ). stopped_from (not (eqb n 0)) cs) (sym z) ∙ e))
          turn.ends

      rest_offers : OffersAgain rest cs
      rest_offers =
          subst (λ (l : List ℕ). OffersAgain l cs) (ap (λ (t : Step). drop t.taken run) is ∙ rest_is) turn.offers

      pub next : AsUncutFrom (held_in t.state (left c)) rest cs
      next =
          turn.claim t.state (left c) rest left_room usable
          (subst (λ (t : Step). Follows t.state (left c) cs) is turn.follows) rest_offers rest_ends
