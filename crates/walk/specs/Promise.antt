-- The promises of the walk, in terms of document 01's definitions. A private promise holds at every number of steps
-- that is enough, so that no law on the number of steps is needed; the public one fixes it.
use Rattle.std.specs.Prelude.{◌≡◌, ℕ, suc, ◌+◌, ◌-◌, ◌≤◌, ◌<◌, min, List, [], Bool, true, false, cond, ◌||◌, length, ltb, Result, Ok, Err}
use Rattle.rules.specs.declared.Avp.{Avp}
use Rattle.rules.specs.declared.Verdict.{Verdict}
use Rattle.rules.specs.Octets.{padded}
use Rattle.rules.specs.Verdict.{verdict, verdict_of, Outcome}
use Rattle.rules.specs.Header.{longest_command}
use Rattle.rules.specs.Avp.{flag_m, flag_p, next_at}
use Rattle.rules.specs.declared.Entry.{Entry}
use Rattle.rules.specs.Walk.{Standing, standing, most_avps, Walked, whole, stopped, avps_of, stop_of, walk_avp, walk_list, Checked, Fault, Plain, Group}
use Rattle.rules.specs.Command.{walk_by}
use Rattle.dictionary.specs.Table.{entry_by}
use Rattle.walk_log.specs.Log.{no_number, put_all}
use Rattle.walk_log.specs.Families.{logged_from, Keeps, IsForest}
use Rattle.walk.specs.declared.check.Passed.{Passed}
use Rattle.walk.specs.declared.standing.Standing as code
use Rattle.walk.specs.declared.Stopped.{Stopped}
use Rattle.walk.specs.Answer.{Walk, stop, verdict_of_walk, count_of_walk, count_of}

-- where the code's walk stands, as the rules have it
abbrev pub standing_of : code.Standing → Standing
standing_of w = standing w.at w.end w.depth w.count

-- what check 2 hands back: the AVP, unless it is refused
abbrev pub frame_of : Outcome → Avp → Result Avp Verdict
frame_of (Ok u) a = Ok a
frame_of (Err v) a = Err v

-- a length field below the header's octets, or with padding beyond what is left
abbrev pub misfit : ℕ → ℕ → ℕ → Bool
misfit left header size = ltb size header || ltb left (padded size)

-- the AVP at a place by the fields of its header
abbrev pub avp_by : ℕ → ℕ → ℕ → ℕ → ℕ → ℕ → ℕ → Avp
avp_by at depth header vendor code flags size = record {
  depth = depth;
  vendor = vendor;
  code = code;
  m = flag_m flags;
  p = flag_p flags;
  start = at + header;
  length = size - header;
}

-- the number of a name's entry by a table of plain codes, in an octet, as a log keeps it
abbrev pub number_by : List ℕ → ℕ → ℕ → ℕ
number_by table vendor code = min (entry_by table vendor code) no_number

-- what the checks of an AVP hand back, where `entry` gives the number of a name's entry
abbrev pub passed_of : (ℕ → ℕ → ℕ) → Checked → Result Passed Verdict
passed_of entry (Fault v) = Err v
passed_of entry (Plain a) = Ok (record { avp = a; entry = entry a.vendor a.code; is_group = false })
passed_of entry (Group a) = Ok (record { avp = a; entry = entry a.vendor a.code; is_group = true })

-- what a walk hands back
abbrev pub answer_of : ℕ → Walked → Walk
answer_of count (whole xs) = Ok (count + length xs)
answer_of count (stopped xs v) = Err (stop (count + length xs) v)

-- how many AVPs stand in the log after it
abbrev pub met_in : Walk → ℕ
met_in (Ok count) = count
met_in (Err s) = s.count

-- where the AVP after this one stands
abbrev pub next_after : Avp → ℕ
next_after a = a.start + padded a.length

-- what the AVP walk hands back: the walk stands at the next AVP, or stopped in the members of this one
abbrev pub step_to : Standing → ℕ → Walk → Result Standing Stopped
step_to w next (Ok count) = Ok (standing next w.end w.depth count)
step_to w next (Err t) = Err t

abbrev pub step_of : Result code.Standing Stopped → Result Standing Stopped
step_of (Ok w) = Ok (standing_of w)
step_of (Err t) = Err t

-- the AVP walk: the answer, the log, and that the walk went on in its list
pub record AvpWalked (dict : List Entry) (entry : ℕ → ℕ → ℕ) (s : List ℕ) (w : Standing) (before : List ℕ) (r : Result code.Standing Stopped) (after : List ℕ) : Type 0 where
  pub answer : (n : ℕ) → w.end - w.at ≤ suc n
      → step_of r ≡ step_to w (next_at s w.at) (answer_of w.count (walk_avp (walk_list n dict s) dict s w))
  pub logged : (n : ℕ) → w.end - w.at ≤ suc n
      → after ≡ put_all before w.count (logged_from entry w.count (avps_of (walk_avp (walk_list n dict s) dict s w)))
  pub within : (v : code.Standing) → r ≡ Ok v → (v.s.now ≡ s) × (w.at < v.at) × (v.end ≡ w.end) × (v.depth ≡ w.depth)

-- the list walk
pub record ListWalked (dict : List Entry) (entry : ℕ → ℕ → ℕ) (s : List ℕ) (w : Standing) (before : List ℕ) (r : Walk) (after : List ℕ) : Type 0 where
  pub answer : (n : ℕ) → w.end - w.at ≤ n → r ≡ answer_of w.count (walk_list n dict s w)
  pub logged : (n : ℕ) → w.end - w.at ≤ n → after ≡ put_all before w.count (logged_from entry w.count (avps_of (walk_list n dict s w)))
  pub within : (c : ℕ) → r ≡ Ok c → c ≤ most_avps

-- the walk of a command; one longer than 16,384 octets is 7001 at 1, as by its header
unfoldable pub command_walk : List Entry → List ℕ → Walked
command_walk dict s = cond (ltb longest_command (length s)) (stopped [] (verdict 7001 1 0 0)) (walk_by dict s)

-- a log after a whole walk of so many AVPs: it holds them with their families, where the entries' numbers are octets,
-- as those by any table are
pub record IsKept (dict : List Entry) (entry : ℕ → ℕ → ℕ) (s log : List ℕ) (c : ℕ) : Type 0 where
  pub number : c ≡ length (avps_of (command_walk dict s))
  pub kept : ((vendor code : ℕ) → entry vendor code ≤ no_number) → Keeps log (logged_from entry 0 (avps_of (command_walk dict s)))
  pub forest : IsForest 1 (avps_of (command_walk dict s))

-- the answer by 01's number and values, and by its cases for the callers; the log, and what is read back from it
pub record CommandWalked (dict : List Entry) (entry : ℕ → ℕ → ℕ) (s before : List ℕ) (r : Walk) (after : List ℕ) : Type 0 where
  pub told : verdict_of_walk r ≡ verdict_of (stop_of (command_walk dict s))
  pub counted : count_of_walk r ≡ count_of (command_walk dict s)
  pub answer : r ≡ answer_of 0 (command_walk dict s)
  pub logged : after ≡ put_all before 0 (logged_from entry 0 (avps_of (command_walk dict s)))
  pub few : (c : ℕ) → r ≡ Ok c → c ≤ most_avps
  pub read : (c : ℕ) → r ≡ Ok c → IsKept dict entry s after c
