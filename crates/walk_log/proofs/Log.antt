-- Laws of a log: what a position holds, and the AVPs one by one.
use mathlib.Core.Path.{◌≡◌, refl, sym, ap, ◌∙◌}
use mathlib.Core.List.{List, ◌∷◌}
use Prim.Native.Nat.{ℕ, zero, suc, ◌+◌, ◌-◌, ◌*◌, ◌^◌, ◌≤◌, ◌<◌, min, max}
use native.Mathlib.Nat.{add-zero}
use native.Mathlib.Numerals.{add-one}
use native.Mathlib.Omega.{arith}
use borrow.Author.Tests.{lt-ltb, le-ltb, le-leb, lt-leb}
use lib.Dec.{eqb}
use lib.ListN.{length, get_or, set, drop}
use lib.Seq.{get_or-drop}
use Rattle.rules.specs.declared.Avp.{Avp}
use Rattle.rules.specs.Avp.{end_of}
use Rattle.rules.specs.Search.{blank, avp_in}
use Rattle.walk_log.specs.Log.{AreNumbersOf, bit, numbers_at, put_avp, put_family, avp_from, avp_of, entry_at, after_at, avps_from, avps_in}

module _ (log : List ℕ) (i : ℕ) where
  pub avp_of_out : 256 ≤ i → avp_of log i ≡ blank
  unfolding avp_of
  avp_of_out h = rw (le-ltb i 256 h)

  pub avp_of_in : i < 256 → avp_of log i ≡ avp_from log (i * 9)
  unfolding avp_of
  avp_of_in h = rw (lt-ltb i 256 h)

  -- as the code reads it from the nine numbers of a position
  module _ (numbers : List ℕ) (of : AreNumbersOf log i numbers) where
    first : get_or numbers 0 0 ≡ get_or log (i * 9) 0
    first = of.each 0 (omega arith) ∙ ap (λ (n : ℕ). get_or log n 0) (add-zero (i * 9))

    pub avp_told : ◌≡◌ {A = Avp}
        record {
          depth = get_or numbers 0 0;
          vendor = get_or numbers 1 0;
          code = get_or numbers 2 0;
          m = eqb (get_or numbers 3 0) 1;
          p = eqb (get_or numbers 4 0) 1;
          start = get_or numbers 5 0;
          length = get_or numbers 6 0 - get_or numbers 5 0;
        }
        (avp_of log i)
    avp_told =
        rw (
          avp_of_in of.within,
          first,
          of.each 1 (omega arith),
          of.each 2 (omega arith),
          of.each 3 (omega arith),
          of.each 4 (omega arith),
          of.each 5 (omega arith),
          of.each 6 (omega arith),
        )
        refl

    pub data_end_told : max (get_or numbers 5 0) (get_or numbers 6 0) ≡ end_of (avp_of log i)
    data_end_told = rw (← avp_told) (omega arith)

    pub depth_told : get_or numbers 0 0 ≡ (avp_of log i).depth
    depth_told = rw (← avp_told) refl

    pub entry_told : min (get_or numbers 7 0) 255 ≡ entry_at log i
    unfolding entry_at
    entry_told = rw (lt-ltb i 256 of.within, of.each 7 (omega arith)) refl

    pub after_told : max (get_or numbers 8 0) (i + 1) ≡ after_at log i
    unfolding after_at
    after_told = rw (lt-ltb i 256 of.within, of.each 8 (omega arith)) (omega arith)

  pub data_end_out : 256 ≤ i → 0 ≡ end_of (avp_of log i)
  data_end_out h = rw (avp_of_out h)

  pub depth_out : 256 ≤ i → 0 ≡ (avp_of log i).depth
  depth_out h = rw (avp_of_out h)

  module _ (a : Avp) where
    pub put_avp_out : 256 ≤ i → put_avp log i a ≡ log
    unfolding put_avp
    put_avp_out h = rw (le-ltb i 256 h)

    pub put_avp_long : i < 256 → 2 ^ 32 ≤ end_of a → put_avp log i a ≡ log
    unfolding put_avp
    put_avp_long h k = rw (lt-ltb i 256 h, le-ltb (end_of a) (2 ^ 32) k)

    pub put_avp_in : i < 256 → end_of a < 2 ^ 32 → put_avp log i a ≡ numbers_at log (i * 9) a
    unfolding put_avp
    put_avp_in h k = rw (lt-ltb i 256 h, lt-ltb (end_of a) (2 ^ 32) k)

    -- as the code puts it: number by number, with M, P and the end found first
    pub put_avp_by : (m : ℕ) → m ≡ bit a.m → (p : ℕ) → p ≡ bit a.p → (end : ℕ) → end ≡ end_of a → i < 256 → end < 2 ^ 32
        → set (set (set (set (set (set (set log (i * 9 + 0) a.depth) (i * 9 + 1) a.vendor) (i * 9 + 2) a.code)
        (i * 9 + 3) m) (i * 9 + 4) p) (i * 9 + 5) a.start) (i * 9 + 6) end
        ≡ put_avp log i a
    put_avp_by m e p f end g h k = rw (add-zero (i * 9), e, f, g) (sym (put_avp_in h (rw g at k)))

  -- the entry, and the position after the last descendant
  pub entry_at_out : 256 ≤ i → entry_at log i ≡ 255
  unfolding entry_at
  entry_at_out h = rw (le-ltb i 256 h)

  pub entry_at_in : i < 256 → entry_at log i ≡ min (get_or log (i * 9 + 7) 0) 255
  unfolding entry_at
  entry_at_in h = rw (lt-ltb i 256 h)

  pub after_at_out : 256 ≤ i → after_at log i ≡ 256
  unfolding after_at
  after_at_out h = rw (le-ltb i 256 h)

  pub after_at_in : i < 256 → after_at log i ≡ max (i + 1) (get_or log (i * 9 + 8) 0)
  unfolding after_at
  after_at_in h = rw (lt-ltb i 256 h)

  pub after_behind : i < 256 → i < after_at log i
  after_behind h = rw (after_at_in h) (omega arith)

  module _ (entry after : ℕ) where
    pub put_family_out : 256 ≤ i → put_family log i entry after ≡ log
    unfolding put_family
    put_family_out h = rw (le-ltb i 256 h)

    pub put_family_far : i < 256 → 256 < after → put_family log i entry after ≡ log
    unfolding put_family
    put_family_far h k = rw (lt-ltb i 256 h, lt-leb after 256 k)

    pub put_family_in : i < 256 → after ≤ 256 → put_family log i entry after ≡ set (set log (i * 9 + 7) entry) (i * 9 + 8) after
    unfolding put_family
    put_family_in h k = rw (lt-ltb i 256 h, le-leb after 256 k)

-- what is put into a log, as the code tests it
pub ruleset put_avp_laws = (put_avp_out, put_avp_long, put_avp_by)

pub ruleset put_family_laws = (put_family_out, put_family_far, put_family_in)

-- ---- the AVPs one by one

length-avps_from : (log : List ℕ) (i n : ℕ) → length (avps_from log i n) ≡ n
unfolding avps_from
length-avps_from log i zero = refl
length-avps_from log i (suc n) = ap suc (length-avps_from log (i + 1) n)

drop-avps_from : (log : List ℕ) (i n k : ℕ) → k < n → drop k (avps_from log i n) ≡ avp_of log (i + k) ∷ drop (suc k) (avps_from log i n)
unfolding avps_from
drop-avps_from log i zero k h = absurd (omega arith)
drop-avps_from log i (suc n) zero h = rw add-zero
drop-avps_from log i (suc n) (suc k) h =
    let e = drop-avps_from log (i + 1) n k (omega arith) in
    let s : i + 1 + k ≡ i + suc k = omega arith in
    rw (← s) e

pub length-avps_in : (log : List ℕ) (count : ℕ) → count ≤ 256 → length (avps_in log count) ≡ count
unfolding avps_in
length-avps_in log count h = length-avps_from log 0 (min count 256) ∙ omega arith

pub avps_used : (log : List ℕ) (count : ℕ) → avps_in log (min count 256) ≡ avps_in log count
unfolding avps_in
avps_used log count = ap (avps_from log 0) (omega arith)

-- the AVPs from a position on: the one there, and those after it
pub avps_cons : (log : List ℕ) (count i : ℕ) → count ≤ 256 → i < count
    → drop i (avps_in log count) ≡ avp_of log i ∷ drop (i + 1) (avps_in log count)
unfolding avps_in
avps_cons log count i h k =
    let e : 0 + i ≡ i = omega arith in
    drop-avps_from log 0 (min count 256) i (omega arith) ∙ rw (add-one i, e)

pub avps_at_lem : (log : List ℕ) (count i : ℕ) → count ≤ 256 → i < count → avp_in (avps_in log count) i ≡ avp_of log i
avps_at_lem log count i h k =
    let e : 0 + i ≡ i = omega arith in
    sym (ap (λ (n : ℕ). get_or (avps_in log count) n blank) (add-zero i))
    ∙ sym (get_or-drop i (avps_in log count) 0 blank)
    ∙ ap (λ (l : List Avp). get_or l 0 blank) (avps_cons log count i h k)
