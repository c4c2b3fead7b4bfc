-- 01's number and values for each case of what a walk answers, and the same of the walk that the rules define.
use Rattle.std.specs.Prelude.{ℕ, length, Result, Ok, Err}
use Rattle.rules.specs.declared.Verdict.{Verdict}
use Rattle.rules.specs.Verdict.{verdict}
use Rattle.rules.specs.Walk.{Walked, whole, stopped}
use Rattle.walk.specs.declared.Stopped.{Stopped}

-- what a walk answers: how many AVPs stand in the log, or the fault at which it stopped, and how many stand there then
abbrev pub Walk : Type 0
Walk = Result ℕ Stopped

abbrev pub stop : ℕ → Verdict → Stopped
stop count v = record { count = count; verdict = v }

-- a whole walk found no fault: number, place, vendor and code 0
abbrev pub verdict_of_walk : Walk → Verdict
verdict_of_walk (Ok count) = verdict 0 0 0 0
verdict_of_walk (Err s) = s.verdict

-- the AVPs that the record gets; with a refusal it is the empty one
abbrev pub count_of_walk : Walk → ℕ
count_of_walk (Ok count) = count
count_of_walk (Err s) = 0

abbrev pub count_of : Walked → ℕ
count_of (whole xs) = length xs
count_of (stopped xs v) = 0
