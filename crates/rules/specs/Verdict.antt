-- What comes back (01, What comes back), and how the first fault is the answer.
use Rattle.std.specs.Prelude.{◌≡◌, ℕ, List, [], ◌∷◌, ◌++◌, Bool, false, cond, ◌||◌, eqb, Result, Ok, Err}
use Rattle.rules.specs.declared.Verdict.{Verdict}

-- the table: the numbers of the reader's refusals. Those from 7001 are the lab's and never go on the wire
unfoldable pub reader_numbers : List ℕ
reader_numbers =
    -- command, application, header bits, AVP bits
    3001 ∷ 3007 ∷ 3008 ∷ 3009
    -- unsupported, value, missing, not allowed, too many
    ∷ 5001 ∷ 5004 ∷ 5005 ∷ 5008 ∷ 5009
    -- version, AVP length, command length
    ∷ 5011 ∷ 5014 ∷ 5015
    -- longer than 16,384, which the writer says too; 257th AVP, group at depth 4. 02, [1]: 01's 7005 is not given
    ∷ 7001 ∷ 7002 ∷ 7003 ∷ []

-- the table's numbers that the reader of a command never gives: output too short, malformed draft
unfoldable pub writer_only_numbers : List ℕ
writer_only_numbers = 7004 ∷ 7006 ∷ []

-- the numbers of the writer's refusals: its own, and the reader's for the octets that it would write
abbrev pub writer_numbers : List ℕ
writer_numbers = writer_only_numbers ++ reader_numbers

-- whether a number is one of a list
abbrev pub is_among : List ℕ → ℕ → Bool
is_among [] n = false
is_among (m ∷ ms) n = eqb n m || is_among ms n

-- number, place, vendor, code
abbrev pub verdict : ℕ → ℕ → ℕ → ℕ → Verdict
verdict number place vendor code = record { number = number; place = place; vendor = vendor; code = code }

-- what some of the checks say of a command: it passes, or the refusal
abbrev pub Outcome : Type 0
Outcome = Result Unit Verdict

abbrev pub no_refusal : Outcome
no_refusal = Ok tt

-- a refusal at a place, with the vendor and code of the AVP at fault
abbrev pub refused : ℕ → ℕ → ℕ → ℕ → Outcome
refused number place vendor code = Err (verdict number place vendor code)

-- a check: where the test holds, the command is refused so, else the checks go on
abbrev pub refuse_if : Bool → Outcome → Outcome → Outcome
refuse_if = cond

-- the first that applies is the answer
abbrev pub or_else : Outcome → Outcome → Outcome
or_else (Ok u) o = o
or_else (Err v) o = Err v

-- accepted is the number 0, as a test and as a claim
abbrev pub is_accepted : Verdict → Bool
is_accepted v = eqb v.number 0

abbrev pub Accepted : Verdict → Type 0
Accepted v = v.number ≡ 0

-- the verdict of an outcome; accepted: number, place, vendor and code 0
abbrev pub verdict_of : Outcome → Verdict
verdict_of (Ok u) = verdict 0 0 0 0
verdict_of (Err v) = v

-- 01, Forms, last paragraph: what a function promises whose answer is an enum. It is this answer, and it has this
-- answer's number and values in 01, which `values` gives for each case
pub record Answers {A B : Type 0} (values : A → B) (answer r : A) : Type 0 where
  pub is : r ≡ answer
  pub told : values r ≡ values answer
