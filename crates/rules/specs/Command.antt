-- 01, Order of checks: header, walk, rows, exchange rules, windows; the first that applies is the answer. What a
-- command is judged by is chosen once, from its header.
use Rattle.std.specs.Prelude.{ℕ, List, cond, length, Err}
use Rattle.rules.specs.declared.Avp.{Avp}
use Rattle.rules.specs.declared.Verdict.{Verdict}
use Rattle.rules.specs.declared.Grammar.TheVariants.{Request, Answer, ErrorAnswer}
use Rattle.rules.specs.declared.ExchangeRules.TheVariants.{OfRequest, OfAnswer, WindowsAlone}
use Rattle.rules.specs.declared.CommandRules.{CommandRules}
use Rattle.rules.specs.Verdict.{or_else, verdict_of, Outcome}
use Rattle.rules.specs.Header.{header_size, header_outcome, command_flags, is_request, is_error}
use Rattle.rules.specs.declared.Entry.{Entry}
use Rattle.rules.specs.Dictionary.{dictionary}
use Rattle.rules.specs.Walk.{Standing, Walked, whole, stopped, walk_list}
use Rattle.rules.specs.RowChecks.{rows_outcome}
use Rattle.rules.specs.Exchange.{exchange_outcome}

-- a request and an answer, each by its rows and its exchange rules
abbrev pub of_request : CommandRules
of_request = record { rows = Request; exchange = OfRequest }

abbrev pub of_answer : CommandRules
of_answer = record { rows = Answer; exchange = OfAnswer }

-- 02, [1]: an answer with E, by the rows of the general form, and by the window rule alone
abbrev pub of_error_answer : CommandRules
of_error_answer = record { rows = ErrorAnswer; exchange = WindowsAlone }

-- what a command is judged by, by its flags: R chooses, then E
unfoldable pub rules_by : ℕ → CommandRules
rules_by flags = cond (is_request flags) of_request (cond (is_error flags) of_error_answer of_answer)

-- by its header
abbrev pub command_rules : List ℕ → CommandRules
command_rules s = rules_by (command_flags s)

-- the command's own list, which is at depth 1
abbrev pub own_list : List ℕ → Standing
own_list s = record { at = header_size; end = length s; depth = 1; count = 0 }

-- its walk by a dictionary; as many steps as the command has octets are enough
abbrev pub walk_by : List Entry → List ℕ → Walked
walk_by dict s = walk_list (length s) dict s (own_list s)

-- its walk
unfoldable pub walk_of : List ℕ → Walked
walk_of s = walk_by dictionary s

-- rows and exchange rules over the AVPs of the walk
unfoldable pub lists_outcome : List ℕ → List Avp → Outcome
lists_outcome s xs =
    or_else (rows_outcome dictionary (command_rules s).rows (length s) xs)
    (exchange_outcome (command_rules s).exchange xs s (length s))

-- a fault of the walk is the answer, however its lists would be judged; else rows and exchange rules
abbrev pub walked_outcome : List ℕ → Walked → Outcome
walked_outcome s (whole xs) = lists_outcome s xs
walked_outcome s (stopped xs v) = Err v

-- header, walk, rows, exchange rules, windows
unfoldable pub command_outcome : List ℕ → Outcome
command_outcome s = or_else (header_outcome s) (walked_outcome s (walk_of s))

-- the one answer to a slice of octets
unfoldable pub command_verdict : List ℕ → Verdict
command_verdict s = verdict_of (command_outcome s)
