-- 01, Exchange rules (clause 4.4.1), over the AVPs of the walk: of a request, of an answer, and the windows. `find` is
-- the search of a list for the first AVP of a name, where nothing else is said the command's own, and `end` the end of
-- that list. The definitions answer for every list of AVPs; where walk or rows have refused a command before, the
-- comment says so.
use Rattle.std.specs.Prelude.{ℕ, ◌+◌, List, [], ◌∷◌, cond, leb, eqb, Option, Some, None}
use Rattle.rules.specs.declared.Avp.{Avp}
use Rattle.rules.specs.declared.ExchangeRules.{ExchangeRules}
use Rattle.rules.specs.declared.ExchangeRules.TheVariants.{OfRequest, OfAnswer, WindowsAlone}
use Rattle.rules.specs.Octets.{number_at}
use Rattle.rules.specs.Verdict.{refused, or_else, Outcome, no_refusal}
use Rattle.rules.specs.Header.{vendor_3gpp}
use Rattle.rules.specs.Avp.{named, end_of}
use Rattle.rules.specs.RowChecks.{member_fault}
use Rattle.rules.specs.Times.{is_before}
use Rattle.rules.specs.Search.{avp_in, positions, search, first, member}

-- a search that found nothing is 5005 at the end of the list that lacks the AVP
abbrev pub present : ℕ → ℕ → ℕ → Option ℕ → Outcome
present end vendor code (Some i) = no_refusal
present end vendor code None = refused 5005 end vendor code

-- a list has an AVP
abbrev pub require : (ℕ → ℕ → Option ℕ) → ℕ → ℕ → ℕ → Outcome
require find end vendor code = present end vendor code (find vendor code)

-- of two searches what the first found, else what the second did
abbrev pub first_found : Option ℕ → Option ℕ → Option ℕ
first_found (Some i) g = Some i
first_found None g = g

-- the volume of a direction: 412, uplink, or 414, downlink
unfoldable pub direction : (ℕ → ℕ → Option ℕ) → Option ℕ
direction find = first_found (find 0 412) (find 0 414)

-- one of 414, 412, 421, reported as 414
unfoldable pub volume : (ℕ → ℕ → Option ℕ) → ℕ → Outcome
volume find end = present end 0 414 (first_found (find 0 421) (direction find))

-- where two searches both found an AVP, the first one's is not allowed beside the other's: 5008 at the first one's,
-- wherever the other stands
abbrev pub not_beside : List Avp → Option ℕ → Option ℕ → Outcome
not_beside xs (Some i) (Some j) = member_fault 5008 (avp_in xs i)
not_beside xs (Some i) None = no_refusal
not_beside xs None g = no_refusal

-- request [2]: the total, 421, not beside a direction
unfoldable pub total_alone : (ℕ → ℕ → Option ℕ) → List Avp → Outcome
total_alone find xs = not_beside xs (find 0 421) (direction find)

-- BTR with 4203 = 0: 532; a volume; the total alone; 4209; 4204
unfoldable pub first_request : (ℕ → ℕ → Option ℕ) → List Avp → ℕ → Outcome
first_request find xs end =
    or_else (require find end vendor_3gpp 532)
    (or_else (volume find end)
    (or_else (total_alone find xs)
    (or_else (require find end vendor_3gpp 4209)
    (require find end vendor_3gpp 4204))))

-- BTR with 4203 = 1: 4202, 4208, 293
unfoldable pub later_request : (ℕ → ℕ → Option ℕ) → ℕ → Outcome
later_request find end =
    or_else (require find end vendor_3gpp 4202)
    (or_else (require find end vendor_3gpp 4208)
    (require find end 0 293))

-- the rules of a request by the value of its 4203; check 6 of the walk has refused any but 0 and 1
abbrev pub by_request_type : (ℕ → ℕ → Option ℕ) → List Avp → ℕ → ℕ → Outcome
by_request_type find xs end type =
    cond (eqb type 0) (first_request find xs end) (cond (eqb type 1) (later_request find end) no_refusal)

-- by its 4203; the rows have refused a request without one
abbrev pub request_by : (ℕ → ℕ → Option ℕ) → List Avp → List ℕ → ℕ → Option ℕ → Outcome
request_by find xs s end (Some i) = by_request_type find xs end (number_at 4 s (avp_in xs i).start)
request_by find xs s end None = refused 5005 end vendor_3gpp 4203

unfoldable pub request_outcome : (ℕ → ℕ → Option ℕ) → List Avp → List ℕ → ℕ → Outcome
request_outcome find xs s end = request_by find xs s end (find vendor_3gpp 4203)

-- BTA, by its 268 and its 297: neither is 5005 for 268, both are 5008 at 297
abbrev pub result_by : List Avp → ℕ → Option ℕ → Option ℕ → Outcome
result_by xs end (Some i) (Some j) = member_fault 5008 (avp_in xs j)
result_by xs end (Some i) None = no_refusal
result_by xs end None (Some j) = no_refusal
result_by xs end None None = refused 5005 end 0 268

unfoldable pub result_outcome : (ℕ → ℕ → Option ℕ) → List Avp → ℕ → Outcome
result_outcome find xs end = result_by xs end (find 0 268) (find 0 297)

-- with any 4207: 4202. With two or more: 2207. `number` is how many 4207 the list has
unfoldable pub policies_outcome : (ℕ → ℕ → Option ℕ) → ℕ → ℕ → Outcome
policies_outcome find end number =
    or_else (cond (leb 1 number) (require find end vendor_3gpp 4202) no_refusal)
    (cond (leb 2 number) (require find end vendor_3gpp 2207) no_refusal)

-- a 4207 whose members `find` searches, and which ends at `end`, holds 4204, then 432
unfoldable pub policy_in : (ℕ → ℕ → Option ℕ) → ℕ → Outcome
policy_in find end = or_else (require find end vendor_3gpp 4204) (require find end 0 432)

-- the 4207 at position i of the command's own list
abbrev pub policy_outcome : List Avp → ℕ → Outcome
policy_outcome xs i = policy_in (member xs i 2) (end_of (avp_in xs i))

-- what is said of the 4207 at these positions, in order
unfoldable pub policies_at : List Avp → List ℕ → Outcome
policies_at xs [] = no_refusal
policies_at xs (i ∷ is) = or_else (policy_outcome xs i) (policies_at xs is)

-- each 4207 of the command's own list in order: the positions are those that the search's ordinals run through
abbrev pub each_policy : List Avp → Outcome
each_policy xs = policies_at xs (positions xs vendor_3gpp 4207)

-- how many there are, as the search tells
abbrev pub policy_number : List Avp → ℕ
policy_number xs = (search xs vendor_3gpp 4207 0).number

-- BTA: its result, what its policies ask of the command by their number, then what is said of each policy
unfoldable pub answer_outcome : (ℕ → ℕ → Option ℕ) → List Avp → ℕ → ℕ → Outcome → Outcome
answer_outcome find xs end number policies =
    or_else (result_outcome find xs end) (or_else (policies_outcome find end number) policies)

-- a window whose 4206 and 4205 stand at positions i and j: the start is before the end, else 5004 at 4205
abbrev pub times_by : List Avp → List ℕ → ℕ → ℕ → Outcome
times_by xs s i j =
    cond (is_before (number_at 4 s (avp_in xs i).start) (number_at 4 s (avp_in xs j).start))
    no_refusal
    (member_fault 5004 (avp_in xs j))

-- a window by its 4206 and its 4205; the rows have refused a 4204 without one of them
abbrev pub window_by : List Avp → List ℕ → ℕ → Option ℕ → Option ℕ → Outcome
window_by xs s end (Some i) (Some j) = times_by xs s i j
window_by xs s end (Some i) None = refused 5005 end vendor_3gpp 4205
window_by xs s end None (Some j) = refused 5005 end vendor_3gpp 4206
window_by xs s end None None = refused 5005 end vendor_3gpp 4206

-- a 4204 whose members `find` searches, and which ends at `end`
unfoldable pub window_in : (ℕ → ℕ → Option ℕ) → List Avp → List ℕ → ℕ → Outcome
window_in find xs s end = window_by xs s end (find vendor_3gpp 4206) (find vendor_3gpp 4205)

-- the 4204 at position i, whose members stand at this depth
abbrev pub window_outcome : List Avp → List ℕ → ℕ → ℕ → Outcome
window_outcome xs s i depth = window_in (member xs i depth) xs s (end_of (avp_in xs i))

-- what is said of the AVP a at position i: of a 4204, at any depth, its outcome
abbrev pub window_at : List Avp → List ℕ → ℕ → Avp → Outcome
window_at xs s i a = cond (named a vendor_3gpp 4204) (window_outcome xs s i (a.depth + 1)) no_refusal

-- each 4204 of the walk, from position i on
unfoldable pub each_window : List Avp → List ℕ → ℕ → List Avp → Outcome
each_window xs s i [] = no_refusal
each_window xs s i (a ∷ rest) =
    or_else (window_at xs s i a) (each_window xs s (i + 1) rest)

-- the rules of a request, of an answer, or none; `number` is how many policies there are, `policies` what is said of
-- each
abbrev pub by_command : (ℕ → ℕ → Option ℕ) → ExchangeRules → List Avp → List ℕ → ℕ → ℕ → Outcome → Outcome
by_command find OfRequest xs s end number policies = request_outcome find xs s end
by_command find OfAnswer xs s end number policies = answer_outcome find xs end number policies
by_command find WindowsAlone xs s end number policies = no_refusal

-- those rules, then what is said of the windows
unfoldable pub exchange_by : (ℕ → ℕ → Option ℕ) → ExchangeRules → List Avp → List ℕ → ℕ → ℕ → Outcome → Outcome → Outcome
exchange_by find rules xs s end number policies windows =
    or_else (by_command find rules xs s end number policies) windows

-- by the search of the command's own list, with each policy and each window
abbrev pub exchange_outcome : ExchangeRules → List Avp → List ℕ → ℕ → Outcome
exchange_outcome rules xs s end =
    exchange_by (first xs) rules xs s end (policy_number xs) (each_policy xs) (each_window xs s 0 xs)
