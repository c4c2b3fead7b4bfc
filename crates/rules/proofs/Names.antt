-- Laws of a `match` on numbers: an arm, and the arm `_`, whose number is none of the others'.
use mathlib.Core.Path.{◌≡◌, ◌∙◌}
use mathlib.Core.List.{List, [], ◌∷◌}
use mathlib.Core.Bool.{Bool, true, false, ◌&&◌, ◌||◌}
use mathlib.Core.Logic.{◌⊎◌, inl, inr, ⊎_elim}
use Prim.Native.Nat.{ℕ}
use lib.Dec.{T, eqb, eqb→eq}

-- ---- an arm: the number is known

pub answer_at : {A : Type 0} (f : ℕ → A) {code known : ℕ} {r s : A} → code ≡ known → r ≡ s → s ≡ f known → r ≡ f code
answer_at f p q h = cc

-- ---- the arm `_`: the number is none of these

-- x is none of these; the last arm of a `match` stands first
abbrev pub Absent : List ℕ → ℕ → Type 0
Absent [] x = Unit {0}
Absent (k ∷ ks) x = Absent ks x × (x ≡ k → ⊥)

abbrev pub cons_if : Bool → ℕ → List ℕ → List ℕ
cons_if true k l = k ∷ l
cons_if false k l = l

abbrev pub among : ℕ → List ℕ → Bool
among x [] = false
among x (k ∷ ks) = eqb x k || among x ks

pub both_hold : (a b : Bool) → T (a && b) → T a × T b
both_hold true b t = (tt, t)
both_hold false b t = absurd t

one_holds : (a b : Bool) → T (a || b) → T a ⊎ T b
one_holds true b t = inl tt
one_holds false b t = inr t

pub absent_differs : (ks : List ℕ) (x k : ℕ) → T (among k ks) → Absent ks x → x ≡ k → ⊥
absent_differs [] x k t h p = absurd t
absent_differs (j ∷ ks) x k t h p =
    ⊎_elim (λ q. h.1 (p ∙ eqb→eq k j q)) (λ q. absent_differs ks x k q h.0 p) (one_holds (eqb k j) (among k ks) t)
