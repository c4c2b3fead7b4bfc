-- Laws of families: the descendants of an AVP where more AVPs follow, and what a log is given of AVPs in walk order.
use mathlib.Core.Path.{◌≡◌, refl, ap}
use mathlib.Core.Bool.{Bool, true, false, cond}
use mathlib.Core.List.{List, [], ◌∷◌, ◌++◌}
use Prim.Native.Nat.{ℕ, suc, ◌+◌, ◌^◌, ◌≤◌, ◌<◌, min}
use native.Mathlib.Nat.{add-zero}
use native.Mathlib.Omega.{arith}
use borrow.Author.Tests.{lt-ltb, le-ltb}
use lib.Dec.{ltb}
use lib.ListN.{length, get_or}
use Rattle.rules.specs.declared.Avp.{Avp}
use Rattle.rules.specs.Avp.{end_of}
use Rattle.walk_log.specs.Log.{Logged, avp_of, logged_of, avps_from, avps_in}
use Rattle.walk_log.specs.Families.{deeper, none_logged, logged_from, Keeps}
use Rattle.walk_log.proofs.Kept.{AllFit}

-- all AVPs are at least so deep
abbrev pub Floor : ℕ → List Avp → Type 0
Floor depth [] = Unit {0}
Floor depth (a ∷ xs) = (depth ≤ a.depth) × Floor depth xs

-- the first AVP, where there is one, is no deeper
abbrev pub Level : ℕ → List Avp → Type 0
Level depth [] = Unit {0}
Level depth (a ∷ xs) = a.depth ≤ depth

-- all data ends by here
abbrev pub Ending : ℕ → List Avp → Type 0
Ending bound [] = Unit {0}
Ending bound (a ∷ xs) = (end_of a ≤ bound) × Ending bound xs

pub floor-append : (depth : ℕ) (xs ys : List Avp) → Floor depth xs → Floor depth ys → Floor depth (xs ++ ys)
floor-append depth [] ys h k = k
floor-append depth (a ∷ xs) ys h k = (h.0, floor-append depth xs ys h.1 k)

-- ---- how many are deeper

deeper_none : (depth : ℕ) (ys : List Avp) → Level depth ys → deeper depth ys ≡ 0
unfolding deeper
deeper_none depth [] h = refl
deeper_none depth (a ∷ ys) h = rw (le-ltb depth a.depth h)

-- AVPs behind the descendants are none of them
pub deeper-append : (depth : ℕ) (xs ys : List Avp) → Level depth ys → deeper depth (xs ++ ys) ≡ deeper depth xs
unfolding deeper
deeper-append depth [] ys h = deeper_none depth ys h
deeper-append depth (a ∷ xs) ys h = ap (λ (n : ℕ). cond (ltb depth a.depth) (suc n) 0) (deeper-append depth xs ys h)

pub deeper_all : (depth : ℕ) (xs : List Avp) → Floor (depth + 1) xs → deeper depth xs ≡ length xs
unfolding deeper
deeper_all depth [] h = refl
deeper_all depth (a ∷ xs) h =
    let k : depth < a.depth = omega (arith, h.0) in
    rw (lt-ltb depth a.depth k) (ap suc (deeper_all depth xs h.1))

cond-few : (b : Bool) (m n : ℕ) → m ≤ n → cond b (suc m) 0 ≤ suc n
cond-few true m n h = omega arith
cond-few false m n h = omega arith

deeper_few : (depth : ℕ) (xs : List Avp) → deeper depth xs ≤ length xs
unfolding deeper
deeper_few depth [] = omega arith
deeper_few depth (a ∷ xs) = cond-few (ltb depth a.depth) (deeper depth xs) (length xs) (deeper_few depth xs)

-- ---- what a log is given

module _ (entry : ℕ → ℕ → ℕ) where
  pub length-logged : (i : ℕ) (xs : List Avp) → length (logged_from entry i xs) ≡ length xs
  unfolding logged_from
  length-logged i [] = refl
  length-logged i (a ∷ xs) = ap suc (length-logged (i + 1) xs)

  pub logged_none : (i : ℕ) → logged_from entry i [] ≡ []
  unfolding logged_from
  logged_none i = refl

  -- a list, and the rest of a list behind it that is no deeper
  pub logged-append : (depth i : ℕ) (xs ys : List Avp) → Floor depth xs → Level depth ys
      → logged_from entry i (xs ++ ys) ≡ logged_from entry i xs ++ logged_from entry (i + length xs) ys
  unfolding logged_from
  logged-append depth i [] ys h k = rw (add-zero i)
  logged-append depth i (a ∷ xs) ys h k =
      let e : i + 1 + length xs ≡ i + suc (length xs) = omega arith in
      let same = deeper-append a.depth xs ys (level_below ys k) in
      rw (same, ← e)
      (ap (λ (ls : List Logged). record { avp = a; entry = entry a.vendor a.code; after = i + 1 + deeper a.depth xs } ∷ ls)
      (logged-append depth (i + 1) xs ys h.1 k))
    where
      level_below : (zs : List Avp) → Level depth zs → Level a.depth zs
      level_below [] l = tt
      level_below (z ∷ zs) l = omega (arith, l, h.0)

  -- an AVP alone, and one with its descendants
  pub logged_one : (i : ℕ) (a : Avp)
      → logged_from entry i (a ∷ []) ≡ record { avp = a; entry = entry a.vendor a.code; after = i + 1 } ∷ []
  unfolding logged_from deeper
  logged_one i a = rw (add-zero (i + 1))

  pub logged_group : (i : ℕ) (a : Avp) (xs : List Avp) → Floor (a.depth + 1) xs
      → logged_from entry i (a ∷ xs)
      ≡ record { avp = a; entry = entry a.vendor a.code; after = i + 1 + length xs } ∷ logged_from entry (i + 1) xs
  unfolding logged_from
  logged_group i a xs h = rw (deeper_all a.depth xs h)

  -- AVPs whose data ends in 32 bits fit a log, where the entries' numbers are octets
  pub logged_fits : ((vendor code : ℕ) → entry vendor code ≤ 255) → (bound : ℕ) → bound < 2 ^ 32 → (i : ℕ) (xs : List Avp)
      → i + length xs ≤ 256 → Ending bound xs → AllFit i (logged_from entry i xs)
  unfolding logged_from
  logged_fits octet bound b i [] few ends = tt
  logged_fits octet bound b i (a ∷ xs) few ends =
      let short = deeper_few a.depth xs in (
        record { end = omega (arith, ends.0); number = octet a.vendor a.code; behind = omega arith; few = omega (arith, short) },
        logged_fits octet bound b (i + 1) xs (omega arith) ends.1,
      )

  avps_from_lem : (log : List ℕ) (i j : ℕ) (xs : List Avp)
      → ((k : ℕ) → k < length xs → logged_of log (i + k) ≡ get_or (logged_from entry j xs) k none_logged) → avps_from log i (length xs) ≡ xs
  unfolding logged_from avps_from
  avps_from_lem log i j [] h = refl
  avps_from_lem log i j (a ∷ xs) h =
      let here : avp_of log i ≡ a = rw (add-zero i) at (ap (λ (l : Logged). l.avp) (h 0 (omega arith))) in
      let rest : avps_from log (i + 1) (length xs) ≡ xs =
      avps_from_lem log (i + 1) (j + 1) xs
      (λ k l. let e : i + 1 + k ≡ i + suc k = omega arith in rw e (h (suc k) (omega arith))) in
      cc

  -- the AVPs of a log that holds them with their families
  pub kept_avps : (log : List ℕ) (xs : List Avp) → length xs ≤ 256 → Keeps log (logged_from entry 0 xs) → avps_in log (length xs) ≡ xs
  unfolding avps_in
  kept_avps log xs few h =
      let e : min (length xs) 256 ≡ length xs = omega arith in
      rw e
      (avps_from_lem log 0 0 xs
      (λ k l.
      let f : 0 + k ≡ k = omega arith in
      rw f (h k (rw (length-logged 0 xs) l))))

-- two ways to number entries that agree
pub logged_same : (f g : ℕ → ℕ → ℕ) → ((vendor code : ℕ) → f vendor code ≡ g vendor code) → (i : ℕ) (xs : List Avp)
    → logged_from f i xs ≡ logged_from g i xs
unfolding logged_from
logged_same f g same i [] = refl
logged_same f g same i (a ∷ xs) = rw (same a.vendor a.code, logged_same f g same (i + 1) xs)
