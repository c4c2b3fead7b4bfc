-- 02, [7]: one call of the reader of a link. "A reader in a lent buffer takes a fragment up to its end, the end of one
-- whole command or a refusal, whichever comes first, stores only the octets it took, each in its place, and says their
-- number and the verdict."
use Rattle.std.specs.Prelude.{ℕ, ◌-◌, min, List, [], ◌∷◌, ◌++◌, Bool, cond, ◌&&◌, ◌||◌, length, take, ltb, leb, eqb}
use Rattle.std.proofs.lemmas.List.Edits.{sets}
use Rattle.rules.specs.declared.Verdict.{Verdict}
use Rattle.rules.specs.Verdict.{verdict}
use Rattle.rules.specs.Header.{header_size, length_field, longest_command}
use Rattle.rules.specs.Command.{command_verdict}
use Rattle.fragments.specs.declared.State.{State}
use Rattle.fragments.specs.declared.Progress.{Progress}
use Rattle.fragments.specs.declared.Progress.TheVariants.{Unfinished, Command, Refusal}
use Rattle.fragments.specs.declared.Step.{Step}

-- how many octets are held, and whether the run has stopped: 0 says that it has not
abbrev pub state : ℕ → ℕ → State
state held stopped = record { held = held; stopped = stopped }

-- "starts afresh": nothing is held, and the run has not stopped
abbrev pub fresh : State
fresh = state 0 0

-- the octets up to the end of the length field: version 1, length 3
abbrev pub field_end : ℕ
field_end = 4

-- "a length field of 20 to 16,384"
unfoldable pub is_length : ℕ → Bool
is_length n = leb header_size n && leb n longest_command

-- "7009, also for a state whose held octets, from four on, are not short of a length field of 20 to 16,384 in the
-- buffer": every other state that has not stopped can be gone on with
unfoldable pub is_usable : State → List ℕ → Bool
is_usable st buffer =
    eqb st.stopped 0
    && (ltb st.held field_end || is_length (length_field buffer) && ltb st.held (length_field buffer))

-- up to how many octets are held: four until the length field stands, and for good where a run stops there; then the
-- whole command
unfoldable pub goal : List ℕ → ℕ
goal s = cond (leb field_end (length s) && is_length (length_field s)) (length_field s) field_end

-- "at the fourth octet, the last one taken, 5015 at 1 for a length field under 20 and 7001 at 1 above 16,384"
abbrev pub length_refusal : ℕ → Verdict
length_refusal n = cond (ltb n header_size) (verdict 5015 1 0 0) (verdict 7001 1 0 0)

-- what octets come to that are held from a command's start on
unfoldable pub progress_of : List ℕ → Progress
progress_of s =
    cond (ltb (length s) (goal s)) Unfinished
    (cond (is_length (length_field s)) (Command (command_verdict s)) (Refusal (length_refusal (length_field s))))

-- the state after them: they are held; afresh after a command; stopped after a refusal. With it the answer
abbrev pub state_after : ℕ → Progress → State
state_after held Unfinished = state held 0
state_after held (Command v) = fresh
state_after held (Refusal v) = state held 1

abbrev pub step_by : ℕ → ℕ → Progress → Step
step_by taken held progress = record { taken = taken; progress = progress; state = state_after held progress }

-- the octets held: the first ones of the buffer
abbrev pub held_in : State → List ℕ → List ℕ
held_in st buffer = take st.held buffer

-- how many octets of a fragment are taken: all, or those up to the goal
unfoldable pub taken_of : State → List ℕ → List ℕ → ℕ
taken_of st fragment buffer = min (length fragment) (goal (held_in st buffer ++ fragment) - st.held)

-- the octets held with those taken
abbrev pub held_with : State → List ℕ → List ℕ → List ℕ
held_with st fragment buffer = held_in st buffer ++ take (taken_of st fragment buffer) fragment

-- the answer of a call that is refused with neither 7004 nor 7009
unfoldable pub onward : State → List ℕ → List ℕ → Step
onward st fragment buffer =
    let s = held_with st fragment buffer in
    step_by (taken_of st fragment buffer) (length s) (progress_of s)

-- "Refusals, the first two taking nothing and keeping the state": place, vendor and code are 0
abbrev pub refused_call : ℕ → State → Step
refused_call number st = record { taken = 0; progress = Refusal (verdict number 0 0 0); state = st }

-- "7004 if the buffer is smaller than 16,384; then 7009"
unfoldable pub step : State → List ℕ → List ℕ → Step
step st fragment buffer =
    cond (ltb (length buffer) longest_command) (refused_call 7004 st)
    (cond (is_usable st buffer) (onward st fragment buffer) (refused_call 7009 st))

-- "stores only the octets it took, each in its place": the buffer afterwards, all else in it as it was
abbrev pub buffer_after : State → List ℕ → List ℕ → List ℕ
buffer_after st fragment buffer = sets buffer st.held (take (step st fragment buffer).taken fragment)

-- the numbers of the refusals of this entry. 7009 is its own
unfoldable pub link_numbers : List ℕ
link_numbers = 7004 ∷ 7009 ∷ 5015 ∷ 7001 ∷ []
