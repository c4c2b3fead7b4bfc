-- The promises of the reader: the verdict of a slice of octets, and what a lent log holds afterwards.
use Rattle.std.specs.Prelude.{◌≡◌, ℕ, ◌≤◌, List, [], length, Err, Ok}
use Rattle.rules.specs.declared.Avp.{Avp}
use Rattle.rules.specs.declared.Verdict.{Verdict}
use Rattle.rules.specs.Verdict.{or_else, verdict_of, Outcome, no_refusal}
use Rattle.rules.specs.Header.{header_size, header_outcome}
use Rattle.rules.specs.declared.Entry.{Entry}
use Rattle.rules.specs.Dictionary.{dictionary}
use Rattle.rules.specs.Walk.{most_avps, Walked, whole, stopped, avps_of}
use Rattle.rules.specs.Command.{command_rules, walk_by, walk_of, command_outcome, command_verdict}
use Rattle.dictionary.specs.Entries.{entry_of}
use Rattle.dictionary.specs.Table.{IsTable, dictionary_by}
use Rattle.walk_log.specs.Log.{put_all, avps_in}
use Rattle.walk_log.specs.Families.{logged_from}
use Rattle.walk.specs.Answer.{count_of}
use Rattle.walk.specs.Promise.{number_by}
use Rattle.lists.specs.Exchanges.{lists_in}
use Rattle.reader.specs.declared.Judgement.{Judgement}

-- ---- by a table of plain codes, whatever numbers it holds

-- a fault of the walk is the answer; else its lists by the log that it left
abbrev pub walked_in : List ℕ → List ℕ → Walked → Outcome
walked_in s log (whole xs) = lists_in (command_rules s) s log (length s) (length xs)
walked_in s log (stopped xs v) = Err v

-- the outcome of a command whose walk went by a dictionary and left this log
unfoldable pub outcome_in : List Entry → List ℕ → List ℕ → Outcome
outcome_in dict s log = or_else (header_outcome s) (walked_in s log (walk_by dict s))

-- the AVPs that such a walk met; none where the header is refused
abbrev pub met_by : List Entry → List ℕ → Outcome → List Avp
met_by dict s (Ok u) = avps_of (walk_by dict s)
met_by dict s (Err v) = []

-- a log after a command was judged: the AVPs that its walk met, with their families, from position 0 on; `entry` gives
-- the number of a name's entry
unfoldable pub log_after_by : List Entry → (ℕ → ℕ → ℕ) → List ℕ → List ℕ → List ℕ
log_after_by dict entry s before = put_all before 0 (logged_from entry 0 (met_by dict s (header_outcome s)))

-- the count that is told: the AVPs of a whole walk, however its lists are judged; 0 after a fault of header or walk,
-- though the log then holds the AVPs that were met before it
abbrev pub count_by : List Entry → List ℕ → Outcome → ℕ
count_by dict s (Ok u) = count_of (walk_by dict s)
count_by dict s (Err v) = 0

-- what judging a command by a table gives; by the right one document 01's outcome
pub record IsJudgedBy (table s before : List ℕ) (r : Judgement) (after : List ℕ) : Type 0 where
  pub outcome : r.outcome ≡ outcome_in (dictionary_by table) s after
  pub counted : r.count ≡ count_by (dictionary_by table) s (header_outcome s)
  pub left : after ≡ log_after_by (dictionary_by table) (number_by table) s before
  pub right : IsTable table → r.outcome ≡ command_outcome s
  pub long : r.outcome ≡ no_refusal → header_size ≤ length s
  pub few : r.outcome ≡ no_refusal → r.count ≤ most_avps
  pub avps : r.outcome ≡ no_refusal → avps_in after r.count ≡ avps_of (walk_by (dictionary_by table) s)

-- ---- by document 01's dictionary

unfoldable pub log_after : List ℕ → List ℕ → List ℕ
log_after s before = log_after_by dictionary (entry_of dictionary) s before

-- what judging a command gives, and for an accepted one its AVPs
pub record IsJudged (s before : List ℕ) (r : Judgement) (after : List ℕ) : Type 0 where
  pub outcome : r.outcome ≡ command_outcome s
  pub told : verdict_of r.outcome ≡ command_verdict s
  pub counted : r.count ≡ count_by dictionary s (header_outcome s)
  pub left : after ≡ log_after s before
  pub long : r.outcome ≡ no_refusal → header_size ≤ length s
  pub few : r.outcome ≡ no_refusal → r.count ≤ most_avps
  pub avps : r.outcome ≡ no_refusal → avps_in after r.count ≡ avps_of (walk_of s)

-- what `outcome` gives
pub record Settled (s before : List ℕ) (r : Outcome) (after : List ℕ) : Type 0 where
  pub answer : r ≡ command_outcome s
  pub told : verdict_of r ≡ command_verdict s
  pub left : after ≡ log_after s before

-- what `verdict` gives
pub record Judged (s before : List ℕ) (r : Verdict) (after : List ℕ) : Type 0 where
  pub answer : r ≡ command_verdict s
  pub left : after ≡ log_after s before

-- what `verdict_by` gives; by the right table document 01's verdict, by another what the log that is left says
pub record JudgedBy (table s before : List ℕ) (r : Verdict) (after : List ℕ) : Type 0 where
  pub answer : r ≡ verdict_of (outcome_in (dictionary_by table) s after)
  pub left : after ≡ log_after_by (dictionary_by table) (number_by table) s before
  pub right : IsTable table → r ≡ command_verdict s
