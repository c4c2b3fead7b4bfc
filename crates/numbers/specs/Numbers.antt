-- A record as 1,799 numbers: R, P, E, T (0 or 1), hop-by-hop, end-to-end, count; then for each of 256 positions depth,
-- vendor, code, M, P (0 or 1), start and length of the data. And the record that any numbers stand for.
use Rattle.std.specs.Prelude.{ℕ, zero, suc, ◌+◌, ◌*◌, List, [], ◌∷◌, ◌++◌, get_or, eqb}
use Rattle.std.proofs.lemmas.List.Edits.{sets}
use Rattle.rules.specs.declared.Avp.{Avp}
use Rattle.rules.specs.declared.Record.{Record}
use Rattle.rules.specs.Walk.{most_avps}
use Rattle.rules.specs.Record.{recorded}
use Rattle.walk_log.specs.Log.{bit}
use Rattle.numbers.specs.declared.Head.{Head}

-- the command's part of a record
abbrev pub head_of : Record → Head
head_of r = record {
  r = r.r;
  p = r.p;
  e = r.e;
  t = r.t;
  hop_by_hop = r.hop_by_hop;
  end_to_end = r.end_to_end;
}

abbrev pub head_numbers : Head → ℕ → List ℕ
head_numbers h count =
    bit h.r ∷ bit h.p ∷ bit h.e ∷ bit h.t ∷ h.hop_by_hop ∷ h.end_to_end ∷ count ∷ []

abbrev pub avp_numbers : Avp → List ℕ
avp_numbers a = a.depth ∷ a.vendor ∷ a.code ∷ bit a.m ∷ bit a.p ∷ a.start ∷ a.length ∷ []

unfoldable pub avps_numbers : List Avp → List ℕ
avps_numbers [] = []
avps_numbers (a ∷ xs) = avp_numbers a ++ avps_numbers xs

unfoldable pub numbers_of : Record → List ℕ
numbers_of r = head_numbers (head_of r) r.count ++ avps_numbers r.avps

-- seven numbers of the command and of each position
abbrev pub record_numbers : ℕ
record_numbers = 7 + most_avps * 7

-- where the numbers of a position stand
abbrev pub numbered_place : ℕ → ℕ
numbered_place i = i * 7 + 7

-- the numbers with AVPs put in from a position on
abbrev pub put_avps : List ℕ → ℕ → List Avp → List ℕ
put_avps numbers i xs = sets numbers (numbered_place i) (avps_numbers xs)

-- the AVP of seven numbers from a place on; a flag is set exactly where its number is 1
abbrev pub numbered_avp_from : List ℕ → ℕ → Avp
numbered_avp_from numbers at = record {
  depth = get_or numbers at 0;
  vendor = get_or numbers (at + 1) 0;
  code = get_or numbers (at + 2) 0;
  m = eqb (get_or numbers (at + 3) 0) 1;
  p = eqb (get_or numbers (at + 4) 0) 1;
  start = get_or numbers (at + 5) 0;
  length = get_or numbers (at + 6) 0;
}

-- the AVP at a position
unfoldable pub numbered_avp : List ℕ → ℕ → Avp
numbered_avp numbers i = numbered_avp_from numbers (numbered_place i)

-- the next n AVPs from a position on
unfoldable pub numbered_avps : List ℕ → ℕ → ℕ → List Avp
numbered_avps numbers i zero = []
numbered_avps numbers i (suc n) = numbered_avp numbers i ∷ numbered_avps numbers (i + 1) n

abbrev pub numbered_count : List ℕ → ℕ
numbered_count numbers = get_or numbers 6 0

unfoldable pub numbered_record : List ℕ → Record
numbered_record numbers = record {
  r = eqb (get_or numbers 0 0) 1;
  p = eqb (get_or numbers 1 0) 1;
  e = eqb (get_or numbers 2 0) 1;
  t = eqb (get_or numbers 3 0) 1;
  hop_by_hop = get_or numbers 4 0;
  end_to_end = get_or numbers 5 0;
  count = numbered_count numbers;
  avps = numbered_avps numbers 0 most_avps;
}

-- the AVPs in use; a count above 256 is read as 256
abbrev pub numbered_used : List ℕ → List Avp
numbered_used numbers = recorded (numbered_record numbers)

-- the command's part of that record
abbrev pub numbered_head : List ℕ → Head
numbered_head numbers = head_of (numbered_record numbers)
