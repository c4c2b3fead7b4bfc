-- The first position of each entry among the members of a list, which the exchange rules search by. It is kept while
-- the members are judged.
use Rattle.std.specs.Prelude.{ℕ, zero, suc, ◌-◌, min, List, cond, ltb, length, get_or, set, replicate, Result, Ok, Err}
use Rattle.rules.specs.declared.Verdict.{Verdict}
use Rattle.rules.specs.Verdict.{Outcome}
use Rattle.rules.specs.declared.Grammar.{Grammar}
use Rattle.rules.specs.Dictionary.{dictionary}
use Rattle.rules.specs.Walk.{most_avps}
use Rattle.walk_log.specs.Log.{Logged}
use Rattle.lists.specs.ByLog.{list_by}

-- no entry was met: the number of places of a record, which is no position, for each
abbrev pub no_firsts : List ℕ
no_firsts = replicate (length dictionary) most_avps

-- a member at a position; a number that is no entry's has no place
unfoldable pub noted : List ℕ → ℕ → ℕ → List ℕ
noted firsts entry i = cond (ltb entry (length dictionary)) (set firsts entry (min (get_or firsts entry 0) i)) firsts

-- the members of a list in order, as `logged_members` has them
unfoldable pub firsts_from : ℕ → (ℕ → Logged) → ℕ → ℕ → List ℕ → List ℕ
firsts_from zero at i stop firsts = firsts
firsts_from (suc n) at i stop firsts =
    cond (ltb i stop) (firsts_from n at (at i).after stop (noted firsts (at i).entry i)) firsts

-- what goes on with a value where an outcome passes, and else is its refusal
abbrev pub passed_with : {A : Type 0} → Outcome → A → Result A Verdict
passed_with (Ok u) a = Ok a
passed_with (Err v) a = Err v

-- what judging a list gives, which stands from one position on and before another
abbrev pub list_in : (ℕ → Logged) → Grammar → ℕ → ℕ → ℕ → Result (List ℕ) Verdict
list_in at g end from to = passed_with (list_by at g end from to) (firsts_from (to - from) at from to no_firsts)
