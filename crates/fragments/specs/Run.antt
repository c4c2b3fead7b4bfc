-- 02, [7]: a run of octets in calls, the same run uncut, and what is claimed of the two. "Provided that the caller
-- starts afresh, always lends the same buffer of at least 16,384 octets, hands back the state, offers again what was
-- not taken and writes nothing to the buffer, every cutting of one run, empty fragments too, gives the same verdicts
-- (unfinished and 7009 apart), octets taken in total and unfinished rest as the run uncut."
use Rattle.std.specs.Prelude.{◌≡◌, ◌⊎◌, ℕ, zero, suc, ◌+◌, ◌≤◌, List, [], ◌∷◌, ◌++◌, map, Bool, true, false, cond, not, ◌&&◌, length, take, drop, ltb, leb, eqb}
use Rattle.rules.specs.declared.Verdict.{Verdict}
use Rattle.rules.specs.Verdict.{verdict}
use Rattle.rules.specs.Header.{length_field, longest_command}
use Rattle.rules.specs.Command.{command_verdict}
use Rattle.rules.specs.Book.{joined}
use Rattle.fragments.specs.declared.State.{State}
use Rattle.fragments.specs.declared.Progress.{Progress}
use Rattle.fragments.specs.declared.Progress.TheVariants.{Unfinished, Command, Refusal}
use Rattle.fragments.specs.declared.Step.{Step}
use Rattle.fragments.specs.Link.{fresh, step, buffer_after, held_in}

-- ---- a run uncut: it is cut by its length fields alone

-- "a length field of 20 to 16,384", counted apart from Link's own, so that a wrong bound there breaks the theorem
unfoldable pub in_range : ℕ → Bool
in_range n = leb 20 n && leb n 16384

-- "5015 at 1 for a length field under 20 and 7001 at 1 above 16,384", counted apart too
unfoldable pub stop_verdict : ℕ → Verdict
stop_verdict n = cond (ltb n 20) (verdict 5015 1 0 0) (verdict 7001 1 0 0)

-- whether octets begin with a whole command, 20 to 16,384 octets long by its length field
unfoldable pub is_whole : List ℕ → Bool
is_whole s = leb 4 (length s) && in_range (length_field s) && leb (length_field s) (length s)

-- the whole commands at the start of octets. The first argument bounds their number; as many as there are octets is
-- enough
unfoldable pub commands_in : ℕ → List ℕ → List (List ℕ)
commands_in zero s = []
commands_in (suc n) s = cond (is_whole s) (take (length_field s) s ∷ commands_in n (drop (length_field s) s)) []

abbrev pub commands_of : List ℕ → List (List ℕ)
commands_of run = commands_in (length run) run

-- the octets behind them
abbrev pub behind_of : List ℕ → List ℕ
behind_of run = drop (length (joined (commands_of run))) run

-- whether octets behind a command stop the run: a length field stands there, under 20 or above 16,384
unfoldable pub stops : List ℕ → Bool
stops s = leb 4 (length s) && not (in_range (length_field s))

-- the verdicts: the reader's of each command, and the refusal that stops the run
unfoldable pub verdicts_uncut : List ℕ → List Verdict
verdicts_uncut run =
    map command_verdict (commands_of run)
    ++ cond (stops (behind_of run)) (stop_verdict (length_field (behind_of run)) ∷ []) []

-- the unfinished rest: the octets behind the last command, where the run stops the four of them that were taken
unfoldable pub rest_uncut : List ℕ → List ℕ
rest_uncut run = cond (stops (behind_of run)) (take 4 (behind_of run)) (behind_of run)

-- octets taken in total
unfoldable pub taken_uncut : List ℕ → ℕ
taken_uncut run = length (joined (commands_of run)) + length (rest_uncut run)

-- ---- a run in calls

-- what the caller hands over
pub record Call : Type 0 where
  pub state : State
  pub fragment : List ℕ
  pub buffer : List ℕ

abbrev pub answer : Call → Step
answer c = step c.state c.fragment c.buffer

-- the buffer when the call is done
abbrev pub left : Call → List ℕ
left c = buffer_after c.state c.fragment c.buffer

-- the verdicts of calls, unfinished and 7009 apart
abbrev pub told : Progress → List Verdict
told Unfinished = []
told (Command v) = v ∷ []
told (Refusal v) = cond (eqb v.number 7009) [] (v ∷ [])

abbrev pub verdicts_of : List Call → List Verdict
verdicts_of [] = []
verdicts_of (c ∷ cs) = told (answer c).progress ++ verdicts_of cs

-- octets taken in total
abbrev pub taken_by : List Call → ℕ
taken_by [] = 0
taken_by (c ∷ cs) = (answer c).taken + taken_by cs

-- the octets held when the last call is done: the unfinished rest
abbrev pub rest_of : List Call → List ℕ
rest_of [] = []
rest_of (c ∷ []) = held_in (answer c).state (left c)
rest_of (c ∷ d ∷ cs) = rest_of (d ∷ cs)

-- whether the run has stopped then
abbrev pub has_stopped : List Call → Bool
has_stopped [] = false
has_stopped (c ∷ []) = not (eqb (answer c).state.stopped 0)
has_stopped (c ∷ d ∷ cs) = has_stopped (d ∷ cs)

-- ---- the caller's part, a hypothesis for each half-sentence

-- "the caller starts afresh"
abbrev pub StartsAfresh : List Call → Type 0
StartsAfresh [] = Unit
StartsAfresh (c ∷ cs) = c.state ≡ fresh

-- "always lends the same buffer ... and writes nothing to the buffer": it comes as the call before left it
abbrev pub KeepsBuffer : List Call → Type 0
KeepsBuffer [] = Unit
KeepsBuffer (c ∷ []) = Unit
KeepsBuffer (c ∷ d ∷ cs) = (d.buffer ≡ left c) × KeepsBuffer (d ∷ cs)

-- "of at least 16,384 octets"
abbrev pub LendsEnough : List Call → Type 0
LendsEnough [] = Unit
LendsEnough (c ∷ cs) = (longest_command ≤ length c.buffer) × LendsEnough cs

-- "hands back the state"
abbrev pub HandsBack : List Call → Type 0
HandsBack [] = Unit
HandsBack (c ∷ []) = Unit
HandsBack (c ∷ d ∷ cs) = (d.state ≡ (answer c).state) × HandsBack (d ∷ cs)

-- "offers again what was not taken": each fragment is the start of what is not taken yet of the run
pub record Begins (fragment run : List ℕ) : Type 0 where
  pub later : List ℕ
  pub all : run ≡ fragment ++ later

abbrev pub OffersAgain : List ℕ → List Call → Type 0
OffersAgain run [] = Unit
OffersAgain run (c ∷ cs) = Begins c.fragment run × OffersAgain (drop (answer c).taken run) cs

-- a cutting of a run: calls that keep to all of it, until the run is taken or has stopped
pub record Cutting (run : List ℕ) (calls : List Call) : Type 0 where
  pub starts_afresh : StartsAfresh calls
  pub keeps_buffer : KeepsBuffer calls
  pub lends_enough : LendsEnough calls
  pub hands_back : HandsBack calls
  pub offers_again : OffersAgain run calls
  pub to_the_end : (taken_by calls ≡ length run) ⊎ (has_stopped calls ≡ true)

-- what is claimed of it
pub record AsUncut (run : List ℕ) (calls : List Call) : Type 0 where
  pub verdicts : verdicts_of calls ≡ verdicts_uncut run
  pub taken : taken_by calls ≡ taken_uncut run
  pub rest : rest_of calls ≡ rest_uncut run

-- ---- a run over a list of fragments

-- the fragments still to be offered after a call for the first of them: what it did not take comes first; none where
-- the run has stopped
abbrev pub offered_next : Step → List ℕ → List (List ℕ) → List (List ℕ)
offered_next a fragment fragments =
    cond (eqb a.state.stopped 0)
    (cond (leb (length fragment) a.taken) fragments (drop a.taken fragment ∷ fragments)) []

-- the calls for a list of fragments. The first argument bounds their number; as many as there are fragments and octets
-- is enough
unfoldable pub calls_from : ℕ → State → List ℕ → List (List ℕ) → List Call
calls_from zero st buffer fragments = []
calls_from (suc n) st buffer [] = []
calls_from (suc n) st buffer (fragment ∷ fragments) =
    let c : Call = record { state = st; fragment = fragment; buffer = buffer } in
    c ∷ calls_from n (answer c).state (left c) (offered_next (answer c) fragment fragments)

abbrev pub calls_for : List ℕ → List (List ℕ) → List Call
calls_for buffer fragments = calls_from (length fragments + length (joined fragments)) fresh buffer fragments
