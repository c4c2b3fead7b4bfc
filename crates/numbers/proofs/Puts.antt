-- Laws of a record as numbers that is put place by place: the command's part, then its AVPs one after the other, those
-- of a record, or of a log over zeros.
use mathlib.Core.Path.{◌≡◌, refl, sym, ap, ◌∙◌}
use mathlib.Core.List.{List, [], ◌∷◌, ◌++◌, append-nil, append_assoc}
use Prim.Native.Nat.{ℕ, zero, suc, ◌+◌, ◌-◌, ◌*◌, ◌≤◌, ◌<◌, min}
use native.Mathlib.Numerals.{add-one}
use native.Mathlib.Omega.{arith}
use lib.ListN.{length, drop, replicate, drop_of_length-le, length-replicate}
use lib.Seq.{sets, sets-eq, drop-cons}
use borrow.Rule.Slice.PartMut.{put_mid}
use Rattle.std.proofs.lemmas.Slice.{put_mid-paste}
use Rattle.std.proofs.lemmas.List.{drop-replicate}
use Rattle.std.proofs.lemmas.List.Edits.{paste_all}
use Rattle.rules.specs.declared.Avp.{Avp}
use Rattle.rules.specs.declared.Record.{Record}
use Rattle.rules.specs.Walk.{most_avps}
use Rattle.rules.specs.Search.{blank, avp_in}
use Rattle.rules.specs.Record.{record_of}
use Rattle.octets.proofs.Puts.{sets-append}
use Rattle.walk_log.specs.Log.{avp_of, avps_in}
use Rattle.walk_log.proofs.Log.{length-avps_in, avps_used, avps_at_lem}
use Rattle.numbers.specs.declared.Head.{Head}
use Rattle.numbers.specs.Numbers.{head_of, head_numbers, avp_numbers, avps_numbers, numbers_of, record_numbers, numbered_place, put_avps}

-- ---- a part

-- numbers copied over as many, from a place on
pub put_part : (l : List ℕ) (at k : ℕ) (ys vs : List ℕ) → ys ≡ vs → length vs ≡ k → at + k ≤ length l → put_mid at k l ys ≡ sets l at vs
put_part l at k ys vs e n h =
    let room : at + length vs ≤ length l = omega arith in
    let whole = sets-eq vs l at room in
    put_mid-paste at k l ys vs (length vs) e n refl ∙ paste_all l at vs (length vs) refl ∙ rw append_assoc at (sym whole)

-- ---- one after the other

put_none : (l : List ℕ) (i : ℕ) → put_avps l i [] ≡ l
unfolding avps_numbers
put_none l i = refl

-- AVPs from a position on: the one there, as the code puts it, and those after it
module _ (l : List ℕ) (i : ℕ) (a : Avp) (after : List ℕ) (put : after ≡ sets l (numbered_place i) (avp_numbers a)) where
  put_cons : (xs : List Avp) → put_avps after (i + 1) xs ≡ put_avps l i (a ∷ xs)
  unfolding avps_numbers
  put_cons xs =
      let n : numbered_place (i + 1) ≡ numbered_place i + 7 = omega arith in
      ap (λ (k : List ℕ). put_avps k (i + 1) xs) put
      ∙ ap (λ (k : ℕ). sets (sets l (numbered_place i) (avp_numbers a)) k (avps_numbers xs)) n
      ∙ sym (sets-append l (numbered_place i) (avp_numbers a) (avps_numbers xs))

  pub put_next : (xs : List Avp) → i < length xs → a ≡ avp_in xs i
      → put_avps after (i + 1) (drop (i + 1) xs) ≡ put_avps l i (drop i xs)
  put_next xs h e =
      let here : drop i xs ≡ a ∷ drop (i + 1) xs = drop-cons xs i blank h ∙ rw (e, add-one i) in
      put_cons (drop (i + 1) xs) ∙ ap (put_avps l i) (sym here)

  pub put_logged_lem : (log : List ℕ) (count : ℕ) → count ≤ most_avps → i < count → a ≡ avp_of log i
      → put_avps after (i + 1) (drop (i + 1) (avps_in log count)) ≡ put_avps l i (drop i (avps_in log count))
  put_logged_lem log count few h e =
      put_next (avps_in log count) (rw (length-avps_in log count few) h) (e ∙ sym (avps_at_lem log count i few h))

module _ (l : List ℕ) (i : ℕ) where
  pub put_end : (xs : List Avp) → length xs ≤ i → put_avps l i (drop i xs) ≡ l
  put_end xs h = ap (put_avps l i) (drop_of_length-le xs h) ∙ put_none l i

  pub logged_end : (log : List ℕ) (count : ℕ) → count ≤ most_avps → count ≤ i
      → put_avps l i (drop i (avps_in log count)) ≡ l
  logged_end log count few h = put_end (avps_in log count) (rw (length-avps_in log count few) h)

-- ---- whole

sets_whole : (l vs : List ℕ) → length l ≡ length vs → sets l 0 vs ≡ vs
sets_whole l vs e =
    let short : length l ≤ 0 + length vs = omega arith in
    sets-eq vs l 0 (omega arith) ∙ ap (λ (r : List ℕ). vs ++ r) (drop_of_length-le l short) ∙ append-nil vs

length-avps_numbers : (xs : List Avp) → length (avps_numbers xs) ≡ length xs * 7
unfolding avps_numbers
length-avps_numbers [] = refl
length-avps_numbers (a ∷ xs) =
    let e = length-avps_numbers xs in
    omega (arith, e)

module _ (l : List ℕ) (room : length l ≡ record_numbers) where
  pub put_whole : (r : Record) → length r.avps ≡ most_avps
      → put_avps (sets l 0 (head_numbers (head_of r) r.count)) 0 r.avps ≡ numbers_of r
  unfolding numbers_of
  put_whole r full =
      let head : List ℕ = head_numbers (head_of r) r.count in
      let many = length-avps_numbers r.avps in
      sym (sets-append l 0 head (avps_numbers r.avps))
      ∙ sets_whole l (head ++ avps_numbers r.avps) (omega (arith, many))

-- ---- over zeros

-- unused positions are all 0
avps_blank : (k n : ℕ) → n ≡ k * 7 → avps_numbers (replicate k blank) ≡ replicate n 0
unfolding avps_numbers
avps_blank zero n e = rw e
avps_blank (suc k) n e =
    let m : n ≡ suc (suc (suc (suc (suc (suc (suc (k * 7))))))) = omega arith in
    rw (m, avps_blank k (k * 7) refl)

avps-append : (xs ys : List Avp) → avps_numbers (xs ++ ys) ≡ avps_numbers xs ++ avps_numbers ys
unfolding avps_numbers
avps-append [] ys = refl
avps-append (a ∷ xs) ys = rw (avps-append xs ys)

-- a command's part and its AVPs, put over zeros
put_in_room : (s : List ℕ) (xs : List Avp) → length xs ≤ most_avps
    → put_avps (sets (replicate record_numbers 0) 0 (head_numbers (head_of (record_of s [])) (length xs))) 0 xs
    ≡ numbers_of (record_of s xs)
unfolding record_of numbers_of
put_in_room s xs few =
    let head : List ℕ = head_numbers (head_of (record_of s [])) (length xs) in
    let zeros : List ℕ = replicate record_numbers 0 in
    let vs : List ℕ = head ++ avps_numbers xs in
    let many : length vs ≡ length xs * 7 + 7 = omega (arith, length-avps_numbers xs) in
    let blanks : List Avp = replicate (most_avps - length xs) blank in
    let room : 0 + length vs ≤ length zeros = omega (arith, length-replicate {A = ℕ} record_numbers 0) in
    let left : ℕ = record_numbers - (0 + length vs) in
    let rest : drop (0 + length vs) zeros ≡ avps_numbers blanks =
    drop-replicate (0 + length vs) record_numbers 0 ∙ sym (avps_blank (most_avps - length xs) left (omega arith)) in
    let tail : avps_numbers xs ++ drop (0 + length vs) zeros ≡ avps_numbers (xs ++ blanks) =
    rw rest (sym (avps-append xs blanks)) in
    sym (sets-append zeros 0 head (avps_numbers xs)) ∙ sets-eq vs zeros 0 room ∙ ap (λ (l : List ℕ). head ++ l) tail

-- the same by a log, as the code puts it
pub put_command : (s log : List ℕ) (count used : ℕ) (head : Head) (a b : List ℕ)
    → used ≡ min count most_avps
    → head ≡ head_of (record_of s [])
    → a ≡ replicate record_numbers 0
    → b ≡ sets a 0 (head_numbers head used)
    → put_avps b 0 (avps_in log used) ≡ numbers_of (record_of s (avps_in log count))
put_command s log count used head a b u h ea eb =
    let few : used ≤ most_avps = omega arith in
    let many : length (avps_in log used) ≡ used = length-avps_in log used few in
    let same : avps_in log used ≡ avps_in log count = ap (avps_in log) u ∙ avps_used log count in
    rw (eb, ea, h, ← same) (rw many at (put_in_room s (avps_in log used) (rw many few)))
