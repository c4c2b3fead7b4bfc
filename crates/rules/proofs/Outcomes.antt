-- Laws of outcomes: the first refusal is the answer, and a pass lets the next checks speak.
use mathlib.Core.Path.{◌≡◌, refl, ap}
use Rattle.std.specs.Prelude.{Err, Ok}
use Prim.Native.Nat.{ℕ}
use native.Mathlib.Omega.{arith}
use Rattle.rules.specs.declared.Verdict.{Verdict}
use Rattle.rules.specs.Verdict.{or_else, Answers, Outcome, no_refusal}

pub refused_first : (o p : Outcome) {v : Verdict} → o ≡ Err v → or_else o p ≡ o
refused_first o p e = rw e

pub pass_first : (o p : Outcome) → o ≡ no_refusal → or_else o p ≡ p
pass_first o p e = rw e

pub or_pass : (o : Outcome) → or_else o no_refusal ≡ o
or_pass (Ok u) = refl
or_pass (Err v) = refl

pub or_assoc : (o p q : Outcome) → or_else (or_else o p) q ≡ or_else o (or_else p q)
or_assoc (Ok u) p q = refl
or_assoc (Err v) p q = refl

-- what passes as a whole passes in each part
pub both_pass : (o p : Outcome) → or_else o p ≡ no_refusal → (o ≡ no_refusal) × (p ≡ no_refusal)
both_pass (Ok u) p e = (refl, e)
both_pass (Err v) p e = let z : ◌≡◌ {A = ℕ} 0 1 = cc in absurd (omega arith)

-- an answer has its number and values
pub answers : {A B : Type 0} (values : A → B) (answer r : A) → r ≡ answer → Answers values answer r
answers values answer r e = record { is = e; told = ap values e }
