-- What was put into a log is read back, each AVP with its entry and the position after its last descendant.
use mathlib.Core.Path.{◌≡◌, refl, sym, ap, ◌∙◌}
use mathlib.Core.Bool.{Bool, true, false, cond, ◌&&◌}
use mathlib.Core.List.{List, [], ◌∷◌, ◌++◌, append_assoc}
use Prim.Native.Nat.{ℕ, zero, suc, ◌+◌, ◌-◌, ◌*◌, ◌^◌, ◌≤◌, ◌<◌, min, max}
use native.Mathlib.Nat.{add-zero}
use native.Mathlib.Omega.{arith}
use lib.Dec.{eqb, ltb, leb}
use lib.ListN.{length, get_or, set, take, drop}
use lib.Seq.{sets, sets-eq, set_comm, length-sets, get_or-append-add, get_or-set_other, length-take-le}
use Rattle.rules.specs.declared.Avp.{Avp}
use Rattle.rules.specs.Avp.{end_of}
use Rattle.walk_log.specs.Log.{Logged, bit, numbers_at, fits_log, put_avp, put_family, put_logged, put_all, logged_of}
use Rattle.walk_log.specs.Families.{none_logged, Keeps}
use Rattle.walk_log.proofs.Log.{avp_of_in, entry_at_in, after_at_in, put_avp_in, put_family_in}

-- ---- numbers set one after the other

-- a number before them is not altered by them, and it may as well be set afterwards
sets_before : (vs log : List ℕ) (at n : ℕ) → n < at → get_or (sets log at vs) n 0 ≡ get_or log n 0
sets_before [] log at n h = refl
sets_before (v ∷ vs) log at n h =
    sets_before vs (set log at v) (suc at) n (omega arith) ∙ get_or-set_other log at n v 0 (λ e. omega arith)

set_before : (vs log : List ℕ) (at n v : ℕ) → n < at → set (sets log at vs) n v ≡ sets (set log n v) at vs
set_before [] log at n v h = refl
set_before (x ∷ vs) log at n v h =
    set_before vs (set log at x) (suc at) n v (omega arith)
    ∙ ap (λ (l : List ℕ). sets l (suc at) vs) (set_comm log at n x v (λ e. omega arith))

-- they are read back
number_same : (vs log : List ℕ) (at : ℕ) → at + length vs ≤ length log → (k : ℕ)
    → get_or (sets log at vs) (at + k) 0 ≡ get_or (vs ++ drop (at + length vs) log) k 0
number_same vs log at room k =
    let e : length (take at log) ≡ at = length-take-le at log (omega arith) in
    ap (λ (l : List ℕ). get_or l (at + k) 0) (sets-eq vs log at room ∙ append_assoc (take at log) vs (drop (at + length vs) log))
    ∙ ap (λ (n : ℕ). get_or (take at log ++ (vs ++ drop (at + length vs) log)) (n + k) 0) (sym e)
    ∙ get_or-append-add (take at log) (vs ++ drop (at + length vs) log) k 0

-- ---- the nine numbers of an AVP

seven : Avp → List ℕ
seven a = a.depth ∷ a.vendor ∷ a.code ∷ bit a.m ∷ bit a.p ∷ a.start ∷ end_of a ∷ []

nine : Logged → List ℕ
nine l = seven l.avp ++ l.entry ∷ l.after ∷ []

-- seven numbers set one after the other
pub sets_seven : (l : List ℕ) (at a b c d e f g : ℕ)
    → set (set (set (set (set (set (set l at a) (at + 1) b) (at + 2) c) (at + 3) d) (at + 4) e) (at + 5) f) (at + 6) g
    ≡ sets l at (a ∷ b ∷ c ∷ d ∷ e ∷ f ∷ g ∷ [])
sets_seven l at a b c d e f g =
    let e1 : at + 1 ≡ suc at = omega arith in
    let e2 : at + 2 ≡ suc (suc at) = omega arith in
    let e3 : at + 3 ≡ suc (suc (suc at)) = omega arith in
    let e4 : at + 4 ≡ suc (suc (suc (suc at))) = omega arith in
    let e5 : at + 5 ≡ suc (suc (suc (suc (suc at)))) = omega arith in
    let e6 : at + 6 ≡ suc (suc (suc (suc (suc (suc at))))) = omega arith in
    rw (e1, e2, e3, e4, e5, e6)

numbers_told : (log : List ℕ) (at : ℕ) (a : Avp) → numbers_at log at a ≡ sets log at (seven a)
unfolding seven
numbers_told log at a = sets_seven log at a.depth a.vendor a.code (bit a.m) (bit a.p) a.start (end_of a)

all_told : (log : List ℕ) (at : ℕ) (l : Logged)
    → set (set (numbers_at log at l.avp) (at + 7) l.entry) (at + 8) l.after ≡ sets log at (nine l)
unfolding nine seven
all_told log at l =
    let e7 : at + 7 ≡ suc (suc (suc (suc (suc (suc (suc at)))))) = omega arith in
    let e8 : at + 8 ≡ suc (suc (suc (suc (suc (suc (suc (suc at))))))) = omega arith in
    rw (numbers_told log at l.avp, e7, e8)

-- what a log can keep at a position
pub record Fits (i : ℕ) (l : Logged) : Type 0 where
  pub end : end_of l.avp < 2 ^ 32
  pub number : l.entry ≤ 255
  pub behind : i < l.after
  pub few : l.after ≤ 256

pub bit_back : (b : Bool) → eqb (bit b) 1 ≡ b
bit_back true = refl
bit_back false = refl

module _ (log : List ℕ) (i : ℕ) (l : Logged) (place : i < 256) (fits : Fits i l) where
  put_nine : put_logged log i l ≡ sets log (i * 9) (nine l)
  put_nine =
      ap (λ (x : List ℕ). put_family x i l.entry l.after) (put_avp_in log i l.avp place fits.end)
      ∙ put_family_in (numbers_at log (i * 9) l.avp) i l.entry l.after place fits.few
      ∙ all_told log (i * 9) l

  pub length-put : length (put_logged log i l) ≡ length log
  length-put = ap length put_nine ∙ length-sets log (i * 9) (nine l)

  put_same : length log ≡ 2304 → logged_of (put_logged log i l) i ≡ l
  unfolding nine seven
  put_same room =
      let at : ℕ = i * 9 in
      let same = number_same (nine l) log at (omega arith) in
      let depth : get_or (sets log at (nine l)) at 0 ≡ l.avp.depth =
      ap (λ (n : ℕ). get_or (sets log at (nine l)) n 0) (sym (add-zero at)) ∙ same 0 in
      let length : (l.avp.start + l.avp.length) - l.avp.start ≡ l.avp.length = omega arith in
      let number : min l.entry 255 ≡ l.entry = omega (arith, fits.number) in
      let behind : max (i + 1) l.after ≡ l.after = omega (arith, fits.behind) in
      rw (
        put_nine,
        avp_of_in (sets log at (nine l)) i place,
        entry_at_in (sets log at (nine l)) i place,
        after_at_in (sets log at (nine l)) i place,
        depth,
        same 1,
        same 2,
        same 3,
        same 4,
        same 5,
        same 6,
        same 7,
        same 8,
        bit_back l.avp.m,
        bit_back l.avp.p,
        length,
        number,
        behind,
      )

  -- a position is not altered by what is put in behind it
  put_before : (j : ℕ) → j < i → logged_of (put_logged log i l) j ≡ logged_of log j
  put_before j h =
      let at : ℕ = j * 9 in
      let there : j < 256 = omega arith in
      let other : (k : ℕ) → k < 9 → get_or (sets log (i * 9) (nine l)) (at + k) 0 ≡ get_or log (at + k) 0 =
      λ k m. sets_before (nine l) log (i * 9) (at + k) (omega arith) in
      let first : get_or (sets log (i * 9) (nine l)) at 0 ≡ get_or log at 0 = sets_before (nine l) log (i * 9) at (omega arith) in
      rw (
        put_nine,
        avp_of_in (sets log (i * 9) (nine l)) j there,
        entry_at_in (sets log (i * 9) (nine l)) j there,
        after_at_in (sets log (i * 9) (nine l)) j there,
        avp_of_in log j there,
        entry_at_in log j there,
        after_at_in log j there,
        first,
        other 1 (omega arith),
        other 2 (omega arith),
        other 3 (omega arith),
        other 4 (omega arith),
        other 5 (omega arith),
        other 6 (omega arith),
        other 7 (omega arith),
        other 8 (omega arith),
      )

-- ---- AVPs one after the other

-- AVPs that a log can keep from a position on
abbrev pub AllFit : ℕ → List Logged → Type 0
AllFit i [] = Unit {0}
AllFit i (l ∷ ls) = Fits i l × AllFit (i + 1) ls

all_before : (ls : List Logged) (log : List ℕ) (i j : ℕ) → i + length ls ≤ 256 → AllFit i ls → j < i
    → logged_of (put_all log i ls) j ≡ logged_of log j
all_before [] log i j few fits h = refl
all_before (l ∷ ls) log i j few fits h =
    all_before ls (put_logged log i l) (i + 1) j (omega arith) fits.1 (omega arith)
    ∙ put_before log i l (omega arith) fits.0 j h

all_from : (ls : List Logged) (log : List ℕ) (i : ℕ) → length log ≡ 2304 → i + length ls ≤ 256 → AllFit i ls
    → (k : ℕ) → k < length ls → logged_of (put_all log i ls) (i + k) ≡ get_or ls k none_logged
all_from [] log i room few fits k h = absurd (omega arith)
all_from (l ∷ ls) log i room few fits zero h =
    rw (add-zero i)
    (all_before ls (put_logged log i l) (i + 1) i (omega arith) fits.1 (omega arith)
    ∙ put_same log i l (omega arith) fits.0 room)
all_from (l ∷ ls) log i room few fits (suc k) h =
    let e : i + 1 + k ≡ i + suc k = omega arith in
    let rest = all_from ls (put_logged log i l) (i + 1) (length-put log i l (omega arith) fits.0 ∙ room) (omega arith) fits.1 k (omega arith) in
    rw (← e) rest

module _ (ls : List Logged) (log : List ℕ) (room : length log ≡ 2304) (few : length ls ≤ 256) (fits : AllFit 0 ls) where
  -- each position holds what was put there
  pub kept : Keeps (put_all log 0 ls) ls
  kept i h =
      let e : 0 + i ≡ i = omega arith in
      rw e at (all_from ls log 0 room (omega arith) fits i h)

-- more AVPs behind those that were put in
pub put_all-append : (log : List ℕ) (i : ℕ) (xs ys : List Logged) → put_all log i (xs ++ ys) ≡ put_all (put_all log i xs) (i + length xs) ys
put_all-append log i [] ys = simp add-zero
put_all-append log i (l ∷ xs) ys =
    let h : i + 1 + length xs ≡ i + suc (length xs) = omega arith in
    rw (← h) (put_all-append (put_logged log i l) (i + 1) xs ys)

-- ---- what is put in at a position may as well be put in before what stands behind it

module _ (log : List ℕ) (j n v : ℕ) (before : n < j * 9) where
  set-avp : (a : Avp) → set (put_avp log j a) n v ≡ put_avp (set log n v) j a
  unfolding put_avp
  set-avp a = by_test (ltb j 256 && fits_log a)
    where
      by_test : (b : Bool) → set (cond b (numbers_at log (j * 9) a) log) n v ≡ cond b (numbers_at (set log n v) (j * 9) a) (set log n v)
      by_test true = rw (numbers_told log (j * 9) a, numbers_told (set log n v) (j * 9) a) (set_before (seven a) log (j * 9) n v before)
      by_test false = refl

  set-family : (entry after : ℕ) → set (put_family log j entry after) n v ≡ put_family (set log n v) j entry after
  unfolding put_family
  set-family entry after = by_test (ltb j 256 && leb after 256)
    where
      by_test : (b : Bool)
          → set (cond b (set (set log (j * 9 + 7) entry) (j * 9 + 8) after) log) n v
          ≡ cond b (set (set (set log n v) (j * 9 + 7) entry) (j * 9 + 8) after) (set log n v)
      by_test true =
          set_comm (set log (j * 9 + 7) entry) (j * 9 + 8) n after v (λ e. omega arith)
          ∙ ap (λ (l : List ℕ). set l (j * 9 + 8) after) (set_comm log (j * 9 + 7) n entry v (λ e. omega arith))
      by_test false = refl

set-logged : (log : List ℕ) (j n v : ℕ) → n < j * 9 → (l : Logged) → set (put_logged log j l) n v ≡ put_logged (set log n v) j l
set-logged log j n v before l =
    set-family (put_avp log j l.avp) j n v before l.entry l.after
    ∙ ap (λ (x : List ℕ). put_family x j l.entry l.after) (set-avp log j n v before l.avp)

set_all : (ls : List Logged) (log : List ℕ) (j n v : ℕ) → n < j * 9 → set (put_all log j ls) n v ≡ put_all (set log n v) j ls
set_all [] log j n v before = refl
set_all (l ∷ ls) log j n v before =
    set_all ls (put_logged log j l) (j + 1) n v (omega arith)
    ∙ ap (λ (x : List ℕ). put_all x (j + 1) ls) (set-logged log j n v before l)

pub family_before : (ls : List Logged) (log : List ℕ) (i j entry after : ℕ) → i < j
    → put_family (put_all log j ls) i entry after ≡ put_all (put_family log i entry after) j ls
unfolding put_family
family_before ls log i j entry after before = by_test (ltb i 256 && leb after 256)
  where
    by_test : (b : Bool)
        → cond b (set (set (put_all log j ls) (i * 9 + 7) entry) (i * 9 + 8) after) (put_all log j ls)
        ≡ put_all (cond b (set (set log (i * 9 + 7) entry) (i * 9 + 8) after) log) j ls
    by_test true =
        ap (λ (x : List ℕ). set x (i * 9 + 8) after) (set_all ls log j (i * 9 + 7) entry (omega arith))
        ∙ set_all ls (set log (i * 9 + 7) entry) j (i * 9 + 8) after (omega arith)
    by_test false = refl
