-- Calls that follow on one another, from a state and a buffer on: each is handed the state and the buffer that the call
-- before left. It is the caller's part of a run, seen from its middle.
use mathlib.Core.Path.{◌≡◌, refl, ap, ◌∙◌, subst}
use mathlib.Core.Bool.{Bool, false, not}
use mathlib.Core.List.{List, [], ◌∷◌, ◌++◌}
use Prim.Native.Nat.{ℕ, ◌≤◌}
use native.Mathlib.Omega.{arith}
use lib.Dec.{eqb}
use lib.ListN.{length}
use Rattle.rules.specs.Header.{longest_command}
use Rattle.fragments.specs.declared.State.{State}
use Rattle.fragments.specs.declared.Step.{Step}
use Rattle.fragments.specs.Link.{fresh, is_usable, refused_call, held_in}
use Rattle.fragments.specs.Run.{Call, answer, left, told, verdicts_of, taken_by, rest_of, has_stopped, StartsAfresh, KeepsBuffer, LendsEnough, HandsBack}
use Rattle.fragments.proofs.Calls.{step_7009, nothing_stored, buffer_long}

abbrev pub Follows : State → List ℕ → List Call → Type 0
Follows st buffer [] = Unit
Follows st buffer (c ∷ cs) = (c.state ≡ st) × ((c.buffer ≡ buffer) × Follows (answer c).state (left c) cs)

-- the octets held when the last call is done, and whether the run has stopped then; without a call, as before
abbrev pub held_from : List ℕ → List Call → List ℕ
held_from held [] = held
held_from held (c ∷ cs) = held_from (held_in (answer c).state (left c)) cs

abbrev pub stopped_from : Bool → List Call → Bool
stopped_from before [] = before
stopped_from before (c ∷ cs) = stopped_from (not (eqb (answer c).state.stopped 0)) cs

-- ---- from a run's start on they are the caller's part, the rest and the stop

pub rest_from : (calls : List Call) → rest_of calls ≡ held_from [] calls
rest_from [] = refl
rest_from (c ∷ []) = refl
rest_from (c ∷ d ∷ cs) = rest_from (d ∷ cs)

pub stopped_from_lem : (calls : List Call) → has_stopped calls ≡ stopped_from false calls
stopped_from_lem [] = refl
stopped_from_lem (c ∷ []) = refl
stopped_from_lem (c ∷ d ∷ cs) = stopped_from_lem (d ∷ cs)

pub follows_of : (c : Call) (cs : List Call) → KeepsBuffer (c ∷ cs) → HandsBack (c ∷ cs)
    → Follows c.state c.buffer (c ∷ cs)
follows_of c [] k h = (refl, (refl, tt))
follows_of c (d ∷ cs) k h =
    let f = follows_of d cs k.1 h.1 in
    (refl, (refl, (h.0, (k.0, f.1.1))))

pub keeps_of : (st : State) (buffer : List ℕ) (calls : List Call) → Follows st buffer calls → KeepsBuffer calls
keeps_of st buffer [] f = tt
keeps_of st buffer (c ∷ []) f = tt
keeps_of st buffer (c ∷ d ∷ cs) f = (f.1.1.1.0, keeps_of (answer c).state (left c) (d ∷ cs) f.1.1)

pub hands_of : (st : State) (buffer : List ℕ) (calls : List Call) → Follows st buffer calls → HandsBack calls
hands_of st buffer [] f = tt
hands_of st buffer (c ∷ []) f = tt
hands_of st buffer (c ∷ d ∷ cs) f = (f.1.1.0, hands_of (answer c).state (left c) (d ∷ cs) f.1.1)

pub afresh_of : (buffer : List ℕ) (calls : List Call) → Follows fresh buffer calls → StartsAfresh calls
afresh_of buffer [] f = tt
afresh_of buffer (c ∷ cs) f = f.0

-- a buffer keeps its length, so it is lent long enough in each call
pub lends_of : (st : State) (buffer : List ℕ) (calls : List Call) → longest_command ≤ length buffer
    → Follows st buffer calls → LendsEnough calls
lends_of st buffer [] room f = tt
lends_of st buffer (c ∷ cs) room f =
    let b = ap length f.1.0 in
    let l = buffer_long c.state c.fragment c.buffer in
    (omega arith, lends_of (answer c).state (left c) cs (omega arith) f.1.1)

-- ---- calls after a stop

-- "7009 is due until the caller starts afresh": nothing is told and taken, and what is held stays
pub record Nothing (held : List ℕ) (calls : List Call) : Type 0 where
  pub verdicts : verdicts_of calls ≡ []
  pub taken : taken_by calls ≡ 0
  pub rest : held_from held calls ≡ held

module _ (c : Call) (room : longest_command ≤ length c.buffer) (off : is_usable c.state c.buffer ≡ false) where
  stopped_answer : answer c ≡ refused_call 7009 c.state
  stopped_answer = step_7009 c.state c.fragment c.buffer room off

  stopped_left : left c ≡ c.buffer
  stopped_left = nothing_stored c.state c.fragment c.buffer (ap (λ (t : Step). t.taken) stopped_answer)

  stopped_held : held_in (answer c).state (left c) ≡ held_in c.state c.buffer
  stopped_held =
      ap (λ (t : Step). held_in t.state (left c)) stopped_answer ∙ ap (held_in c.state) stopped_left

  -- one such call, and the calls that follow on it
  stopped_then : (cs : List Call) → Nothing (held_in c.state c.buffer) cs
      → Nothing (held_in c.state c.buffer) (c ∷ cs)
  stopped_then cs n =
      let t = ap (λ (t : Step). t.taken) stopped_answer in
      let m = n.taken in
      record {
        verdicts = ap (λ (t : Step). told t.progress ++ verdicts_of cs) stopped_answer ∙ n.verdicts;
        taken = omega arith;
        rest = ap (λ (l : List ℕ). held_from l cs) stopped_held ∙ n.rest;
      }

pub stopped_calls : (st : State) (buffer : List ℕ) (calls : List Call) → longest_command ≤ length buffer
    → is_usable st buffer ≡ false → Follows st buffer calls → Nothing (held_in st buffer) calls
stopped_calls st buffer [] room stopped f = record { verdicts = refl; taken = refl; rest = refl }
stopped_calls st buffer (c ∷ cs) room stopped f =
    let s = f.0 in
    let b = f.1.0 in
    let r : longest_command ≤ length c.buffer = rw b room in
    let u : is_usable c.state c.buffer ≡ false = rw (s, b) stopped in
    let st-is : (answer c).state ≡ st = ap (λ (t : Step). t.state) (stopped_answer c r u) ∙ s in
    let left_is : left c ≡ buffer = stopped_left c r u ∙ b in
    let g : Follows st buffer cs =
    subst (λ (l : List ℕ). Follows st l cs) left_is (subst (λ (t : State). Follows t (left c) cs) st-is f.1.1) in
    let n = stopped_calls st buffer cs room stopped g in
    let n' : Nothing (held_in c.state c.buffer) cs = rw (s, b) n in
    subst (λ (l : List ℕ). Nothing l (c ∷ cs)) (ap (λ (t : State). held_in t c.buffer) s ∙ ap (held_in st) b)
    (stopped_then c r u cs n')
