-- Laws of a record as numbers: in room for 256 AVPs, all 0 for the empty record, and read back.
use mathlib.Core.Path.{◌≡◌, refl, sym, ap, ◌∙◌}
use Rattle.std.specs.Prelude.{Err}
use Rattle.rules.specs.Verdict.{Outcome}
use mathlib.Core.List.{List, [], ◌∷◌, ◌++◌, map}
use Prim.Native.Nat.{ℕ, zero, suc, ◌+◌, ◌-◌, ◌≤◌, ◌<◌}
use native.Mathlib.Nat.{add-zero}
use native.Mathlib.Omega.{arith}
use mathlib.Core.Bool.{Bool, false}
use lib.Dec.{lit≤}
use lib.ListN.{length, get_or, drop, replicate, length-append, length-map, length-replicate, get_or-eq_default}
use lib.Seq.{drop-drop, get_or-drop, get_or-take}
use borrow.Rule.Slice.PartMut.{mid_of}
use Rattle.rules.specs.declared.Avp.{Avp}
use Rattle.rules.specs.declared.Record.{Record}
use Rattle.rules.specs.declared.Verdict.{Verdict}
use Rattle.rules.specs.Walk.{most_avps}
use Rattle.rules.specs.Search.{blank, avp_in}
use Rattle.rules.specs.Command.{command_outcome}
use Rattle.rules.specs.Record.{in_room, empty_record, record_by, reading}
use Rattle.walk_log.proofs.Kept.{bit_back}
use Rattle.numbers.specs.Numbers.{head_of, head_numbers, avp_numbers, avps_numbers, numbers_of, record_numbers, numbered_place, numbered_avp_from, numbered_avp, numbered_avps, numbered_count, numbered_record}

-- ---- no AVP from position 256 on

pub avp_out : (numbers : List ℕ) (i : ℕ) → length numbers ≡ record_numbers → most_avps ≤ i → numbered_avp numbers i ≡ blank
unfolding numbered_avp
avp_out numbers i e h =
    let none : (k : ℕ) → get_or numbers (numbered_place i + k) 0 ≡ 0 = λ k. get_or-eq_default numbers 0 (omega arith) in
    let first : get_or numbers (numbered_place i) 0 ≡ 0 = get_or-eq_default numbers 0 (omega arith) in
    rw (first, none 1, none 2, none 3, none 4, none 5, none 6)

abbrev avp_by : ℕ → ℕ → ℕ → Bool → Bool → ℕ → ℕ → Avp
avp_by depth vendor code m p start length = record {
  depth = depth;
  vendor = vendor;
  code = code;
  m = m;
  p = p;
  start = start;
  length = length;
}

avp_blank : {depth vendor code start length : ℕ} {m p : Bool} → depth ≡ 0 → vendor ≡ 0 → code ≡ 0 → m ≡ false → p ≡ false → start ≡ 0
    → length ≡ 0 → avp_by depth vendor code m p start length ≡ blank
avp_blank e f g h i j k = rw (e, f, g, h, i, j, k)

-- an AVP that is all 0, field by field
pub all_zero : (a : Avp)
    → (a.depth ≡ 0) × ((a.vendor ≡ 0) × ((a.code ≡ 0) × ((a.m ≡ false) × ((a.p ≡ false) × ((a.start ≡ 0) × (a.length ≡ 0))))))
    → a ≡ blank
all_zero a e = avp_blank e.0 e.1.0 e.1.1.0 e.1.1.1.0 e.1.1.1.1.0 e.1.1.1.1.1.0 e.1.1.1.1.1.1

-- ---- the AVP of a part

part_at : (l : List ℕ) (at k j : ℕ) → j < k → get_or (mid_of at k l) j 0 ≡ get_or l (at + j) 0
part_at l at k j h = get_or-take k (drop at l) j 0 h ∙ get_or-drop at l j 0

-- the seven numbers of a position, read from the part that they are
pub avp_part : (numbers : List ℕ) (i k : ℕ) → 7 ≡ k →
    let part = mid_of (numbered_place i) k numbers in
    numbered_avp_from part 0 ≡ numbered_avp numbers i
unfolding numbered_avp
avp_part numbers i k e =
    let at = numbered_place i in
    let here : (j : ℕ) → j < 7 → get_or (mid_of at k numbers) j 0 ≡ get_or numbers (at + j) 0 =
    λ j h. part_at numbers at k j (omega arith) in
    let none = add-zero at in
    rw (here 0 (lit≤ tt), here 1 (lit≤ tt), here 2 (lit≤ tt), here 3 (lit≤ tt), here 4 (lit≤ tt), here 5 (lit≤ tt), here 6 (lit≤ tt))
    (rw none)

-- ---- in room for 256

-- the length of a list, from that of its image: what owning an array tells is said of an image
pub length-mapped : (X Y : Type 0) (f : X → Y) (l : List X) (n : ℕ) → length (map f l) ≡ n → length l ≡ n
length-mapped X Y f l n h = sym (length-map l f) ∙ h

pub room_full : (xs : List Avp) → length xs ≤ most_avps → length (in_room xs) ≡ most_avps
room_full xs few =
    length-append xs (replicate (most_avps - length xs) blank)
    ∙ rw (length-replicate {A = Avp} (most_avps - length xs) blank) (omega arith)

-- ---- all 0

pub numbers_empty : numbers_of empty_record ≡ replicate record_numbers 0
unfolding numbers_of avps_numbers empty_record
numbers_empty = refl

-- with a refusal all numbers are 0
pub numbers_refused : (s : List ℕ) (v : Verdict) → command_outcome s ≡ Err v → numbers_of (reading s).«record» ≡ replicate record_numbers 0
unfolding reading
numbers_refused s v e = ap (λ (o : Outcome). numbers_of (record_by s o)) e ∙ numbers_empty

-- ---- read back

length-avps : (numbers : List ℕ) (i n : ℕ) → length (numbered_avps numbers i n) ≡ n
unfolding numbered_avps
length-avps numbers i zero = refl
length-avps numbers i (suc n) = ap suc (length-avps numbers (i + 1) n)

get_d_avps : (numbers : List ℕ) (i n k : ℕ) → k < n → get_or (numbered_avps numbers i n) k blank ≡ numbered_avp numbers (i + k)
unfolding numbered_avps
get_d_avps numbers i zero k h = absurd (omega arith)
get_d_avps numbers i (suc n) zero h = rw add-zero
get_d_avps numbers i (suc n) (suc k) h =
    let s : i + 1 + k ≡ i + suc k = omega arith in
    get_d_avps numbers (i + 1) n k (omega arith) ∙ ap (numbered_avp numbers) s

module _ (numbers : List ℕ) where
  pub avps_full : length (numbered_record numbers).avps ≡ most_avps
  unfolding numbered_record
  avps_full = length-avps numbers 0 most_avps

  pub avp_in_lem : (i : ℕ) → i < most_avps → avp_in (numbered_record numbers).avps i ≡ numbered_avp numbers i
  unfolding numbered_record
  avp_in_lem i h =
      let e : 0 + i ≡ i = omega arith in
      get_d_avps numbers 0 most_avps i h ∙ ap (numbered_avp numbers) e

  pub count_in : (numbered_record numbers).count ≡ numbered_count numbers
  unfolding numbered_record
  count_in = refl

  pub hop_in : (numbered_record numbers).hop_by_hop ≡ get_or numbers 4 0
  unfolding numbered_record
  hop_in = refl

  pub end_in : (numbered_record numbers).end_to_end ≡ get_or numbers 5 0
  unfolding numbered_record
  end_in = refl

avps_back : (numbers : List ℕ) (xs : List Avp) (i : ℕ) → drop (numbered_place i) numbers ≡ avps_numbers xs
    → numbered_avps numbers i (length xs) ≡ xs
unfolding numbered_avps avps_numbers numbered_avp
avps_back numbers [] i e = refl
avps_back numbers (a ∷ xs) i e =
    let at = numbered_place i in
    let here : (k : ℕ) → get_or numbers (at + k) 0 ≡ get_or (avp_numbers a ++ avps_numbers xs) k 0 =
    λ k. sym (get_or-drop at numbers k 0) ∙ ap (λ (l : List ℕ). get_or l k 0) e in
    let first : get_or numbers at 0 ≡ a.depth = ap (λ (n : ℕ). get_or numbers n 0) (sym (add-zero at)) ∙ here 0 in
    let one : numbered_avp_from numbers at ≡ a =
    rw (first, here 1, here 2, here 3, here 4, here 5, here 6, bit_back a.m, bit_back a.p) in
    let n : numbered_place (i + 1) ≡ at + 7 = omega arith in
    let others : drop (numbered_place (i + 1)) numbers ≡ avps_numbers xs =
    ap (λ (k : ℕ). drop k numbers) n ∙ sym (drop-drop 7 at numbers) ∙ ap (λ (l : List ℕ). drop 7 l) e in
    let more : numbered_avps numbers (i + 1) (length xs) ≡ xs = avps_back numbers xs (i + 1) others in
    cc

-- the record that a record's numbers stand for is that record
pub record_back : (r : Record) → length r.avps ≡ most_avps → numbered_record (numbers_of r) ≡ r
unfolding numbered_record numbers_of
record_back r full =
    let numbers = head_numbers (head_of r) r.count ++ avps_numbers r.avps in
    let avps : numbered_avps numbers 0 most_avps ≡ r.avps =
    ap (numbered_avps numbers 0) (sym full) ∙ avps_back numbers r.avps 0 refl in
    rw (avps, bit_back r.r, bit_back r.p, bit_back r.e, bit_back r.t)
