-- What the demands claim of the answers (proofs/demands/Order): the place, vendor and code that go with a number, and
-- which check decides, in 01's order, for a command and for a write call.
use Rattle.std.specs.Prelude.{◌≡◌, ℕ, ◌≤◌, ◌<◌, Bool, true, false, not, ◌&&◌, ◌||◌, List, [], ◌∷◌, eqb, length, Err}
use Rattle.rules.specs.declared.Avp.{Avp}
use Rattle.rules.specs.declared.Verdict.{Verdict}
use Rattle.rules.specs.declared.Written.{Written}
use Rattle.rules.specs.Verdict.{writer_only_numbers, is_among, verdict, Outcome, no_refusal}
use Rattle.rules.specs.Header.{header_outcome, longest_command}
use Rattle.rules.specs.Dictionary.{dictionary}
use Rattle.rules.specs.Walk.{whole, stopped}
use Rattle.rules.specs.RowChecks.{list_outcome, groups_outcome}
use Rattle.rules.specs.Search.{first}
use Rattle.rules.specs.Exchange.{by_command, policy_number, each_policy, each_window}
use Rattle.rules.specs.Command.{command_rules, walk_of, command_verdict}
use Rattle.rules.specs.Draft.{Draft, is_well_formed}
use Rattle.rules.specs.Writer.{draft_octets, writing}

-- where the number is this one, vendor and code are 0
abbrev pub unnamed : ℕ → Verdict → Bool
unnamed number v = not (eqb v.number number) || eqb v.vendor 0 && eqb v.code 0

-- and the place is one of these
abbrev pub placed : ℕ → List ℕ → Verdict → Bool
placed number places v = not (eqb v.number number) || is_among places v.place && unnamed number v

-- 01, What comes back: place, vendor and code of acceptance are 0; header refusals and 7002 have vendor and code 0. The
-- places of the header refusals are those of 01, Order of checks, Header, in its order
unfoldable pub fits_table : Verdict → Bool
fits_table v =
    placed 0 (0 ∷ []) v
    && placed 5015 (0 ∷ 1 ∷ []) v
    && placed 5011 (0 ∷ []) v
    && placed 7001 (1 ∷ []) v
    && placed 3007 (8 ∷ []) v
    && placed 3001 (5 ∷ []) v
    && placed 3008 (4 ∷ []) v
    && unnamed 7002 v

-- the checks over the AVPs of a command's walk, in 01's order: the rows of the command's own list, those of each group,
-- the exchange rules but for the windows, of which an answer with E has none, the windows
abbrev pub own_rows : List ℕ → List Avp → Outcome
own_rows c xs = list_outcome (command_rules c).rows 1 (length c) xs

abbrev pub group_rows : List ℕ → List Avp → Outcome
group_rows c xs = groups_outcome dictionary xs

abbrev pub exchange : List ℕ → List Avp → Outcome
exchange c xs =
    by_command (first xs) (command_rules c).exchange xs c (length c) (policy_number xs) (each_policy xs)

abbrev pub windows : List ℕ → List Avp → Outcome
windows c xs = each_window xs c 0 xs

-- over the AVPs of a walk without fault, the first of them that refuses is the answer
pub record FirstListFault (c : List ℕ) (xs : List Avp) : Type 0 where
  pub own : (v : Verdict) → own_rows c xs ≡ Err v → command_verdict c ≡ v
  pub groups : (v : Verdict) → own_rows c xs ≡ no_refusal → group_rows c xs ≡ Err v → command_verdict c ≡ v
  pub rules : (v : Verdict) → own_rows c xs ≡ no_refusal → group_rows c xs ≡ no_refusal → exchange c xs ≡ Err v
      → command_verdict c ≡ v
  pub times : (v : Verdict) → own_rows c xs ≡ no_refusal → group_rows c xs ≡ no_refusal → exchange c xs ≡ no_refusal
      → windows c xs ≡ Err v → command_verdict c ≡ v
  -- none applies
  pub none : own_rows c xs ≡ no_refusal → group_rows c xs ≡ no_refusal → exchange c xs ≡ no_refusal → windows c xs ≡ no_refusal
      → command_verdict c ≡ verdict 0 0 0 0

-- 01, Order of checks: the first that applies is the answer
pub record FirstFault (c : List ℕ) : Type 0 where
  pub header : (v : Verdict) → header_outcome c ≡ Err v → command_verdict c ≡ v
  -- a fault of the walk, whatever the AVPs before it are
  pub walk : (xs : List Avp) (v : Verdict) → header_outcome c ≡ no_refusal → walk_of c ≡ stopped xs v → command_verdict c ≡ v
  pub lists : (xs : List Avp) → header_outcome c ≡ no_refusal → walk_of c ≡ whole xs → FirstListFault c xs

-- the answer of a call that the writer refuses itself: place, vendor and code are 0, and the length
abbrev pub own_refusal : ℕ → Written
own_refusal number = record { verdict = verdict number 0 0 0; length = 0 }

-- 01, The record and the writer: 7006, 7001, 7004, then what the reader says of those octets
pub record WriterOrder (d : Draft) (out : List ℕ) : Type 0 where
  pub malformed : is_well_formed d ≡ false → writing d out ≡ own_refusal 7006
  pub long : is_well_formed d ≡ true → longest_command < length (draft_octets d) → writing d out ≡ own_refusal 7001
  pub short : is_well_formed d ≡ true → length (draft_octets d) ≤ longest_command → length out < length (draft_octets d)
      → writing d out ≡ own_refusal 7004
  pub reader : is_well_formed d ≡ true → length (draft_octets d) ≤ longest_command → length (draft_octets d) ≤ length out
      → (writing d out).verdict ≡ command_verdict (draft_octets d)

-- the numbers of the writer's own refusals: 7001, which the reader says too, 7004 and 7006
abbrev pub own_numbers : List ℕ
own_numbers = 7001 ∷ writer_only_numbers

-- by the number that came back: a refusal of the writer's own, or the reader's answer to those octets
pub record WriterValues (d : Draft) (out : List ℕ) : Type 0 where
  pub own : is_among own_numbers (writing d out).verdict.number ≡ true
      → writing d out ≡ own_refusal (writing d out).verdict.number
  pub reader : is_among own_numbers (writing d out).verdict.number ≡ false
      → (writing d out).verdict ≡ command_verdict (draft_octets d)
