-- The exchange rules by the numbers that a log holds: the members of the command's own list and of each group are
-- searched by their first positions, and the policies are counted. Of the log of a walk they say what document 01 says
-- of its AVPs (proofs/Exchanges).
use Rattle.std.specs.Prelude.{ℕ, zero, suc, ◌+◌, ◌-◌, min, List, Bool, cond, ◌&&◌, eqb, Option, Result}
use Rattle.rules.specs.declared.Avp.{Avp}
use Rattle.rules.specs.declared.CommandRules.{CommandRules}
use Rattle.rules.specs.declared.Verdict.{Verdict}
use Rattle.rules.specs.Verdict.{or_else, Outcome, no_refusal}
use Rattle.rules.specs.Header.{vendor_3gpp}
use Rattle.rules.specs.Avp.{end_of}
use Rattle.rules.specs.Dictionary.{dictionary}
use Rattle.rules.specs.Walk.{most_avps}
use Rattle.rules.specs.Exchange.{policy_in, window_in, exchange_by}
use Rattle.dictionary.specs.Entries.{entry_of}
use Rattle.walk_log.specs.Log.{Logged, logged_of, avps_in}
use Rattle.exchange.specs.Firsts.{find_in}
use Rattle.exchange.specs.declared.Groups.{Groups}
use Rattle.lists.specs.ByLog.{first_fault, family_end, group_at, rows_by}
use Rattle.lists.specs.Firsts.{no_firsts, firsts_from, passed_with}

-- the first positions among the members of the group at position i of `count`
abbrev pub firsts_at : (ℕ → Logged) → ℕ → ℕ → List ℕ
firsts_at at count i = firsts_from (family_end at count i - (i + 1)) at (i + 1) (family_end at count i) no_firsts

-- an AVP has the entry of a vendor and code
abbrev pub has_entry : Logged → ℕ → ℕ → Bool
has_entry l vendor code = eqb l.entry (entry_of dictionary vendor code)

-- an AVP is a policy of the command's own list
abbrev pub is_policy : Logged → Bool
is_policy l = has_entry l vendor_3gpp 4207 && eqb l.avp.depth 1

-- how many such policies there are among the n AVPs from position i on
unfoldable pub policy_number_from : (ℕ → Logged) → ℕ → ℕ → ℕ
policy_number_from at zero i = 0
policy_number_from at (suc n) i = cond (is_policy (at i)) 1 0 + policy_number_from at n (i + 1)

-- what is said of an AVP as such a policy; `find` is the search of its members
abbrev pub as_policy : (ℕ → ℕ → Option ℕ) → Logged → Outcome
as_policy find l = cond (is_policy l) (policy_in find (end_of l.avp)) no_refusal

-- and as a window
abbrev pub as_window : (ℕ → ℕ → Option ℕ) → List Avp → List ℕ → Logged → Outcome
as_window find xs s l = cond (has_entry l vendor_3gpp 4204) (window_in find xs s (end_of l.avp)) no_refusal

-- of the AVP at position i of `count`
unfoldable pub policy_logged : (ℕ → Logged) → ℕ → ℕ → Outcome
policy_logged at count i = as_policy (find_in (firsts_at at count i) count) (at i)

unfoldable pub window_logged : (ℕ → Logged) → List Avp → List ℕ → ℕ → ℕ → Outcome
window_logged at xs s count i = as_window (find_in (firsts_at at count i) count) xs s (at i)

-- what is said of all groups
abbrev pub said_of_groups : (ℕ → Logged) → List Avp → List ℕ → ℕ → Groups
said_of_groups at xs s count =
    record {
      number = policy_number_from at count 0;
      policies = first_fault (policy_logged at count) count 0;
      windows = first_fault (window_logged at xs s count) count 0;
    }

-- what judging the groups gives: the refusal of the row checks, and where these pass what is said of the groups
abbrev pub groups_in : (ℕ → Logged) → List Avp → List ℕ → ℕ → Result Groups Verdict
groups_in at xs s count = passed_with (first_fault (group_at at count) count 0) (said_of_groups at xs s count)

-- the rows of all lists, then the exchange rules, of the command `s`, whose list ends at `end`
unfoldable pub lists_by : (ℕ → Logged) → List Avp → CommandRules → List ℕ → ℕ → ℕ → Outcome
lists_by at xs rules s end count =
    or_else (rows_by at rules.rows end count)
    (exchange_by (find_in (firsts_from count at 0 count no_firsts) count) rules.exchange xs s end
    (policy_number_from at count 0) (first_fault (policy_logged at count) count 0) (first_fault (window_logged at xs s count) count 0))

-- by a log with so many AVPs, above 256 read as 256
abbrev pub lists_in : CommandRules → List ℕ → List ℕ → ℕ → ℕ → Outcome
lists_in rules s log end count = lists_by (logged_of log) (avps_in log count) rules s end (min count most_avps)
