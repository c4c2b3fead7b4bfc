-- A log of 256 places of nine numbers: depth, vendor, code, M, P, the start and the end of the data, the number of the
-- AVP's entry in the dictionary, and the position after its last descendant. The end stands in the place of the length
-- since a group's list ends there, and so it fits its place whatever a log holds.
use Rattle.std.specs.Prelude.{ℕ, zero, suc, ◌+◌, ◌-◌, ◌*◌, ◌^◌, ◌<◌, ◌≡◌, min, max, List, [], ◌∷◌, Bool, true, false, cond, ◌&&◌, get_or, set, ltb, leb, eqb}
use Rattle.rules.specs.declared.Avp.{Avp}
use Rattle.rules.specs.Walk.{most_avps}
use Rattle.rules.specs.Avp.{end_of}
use Rattle.rules.specs.Search.{blank}

-- an AVP of a walk as a log keeps it: with the number of its entry, and the position after its last descendant
pub record Logged : Type 0 where
  pub avp : Avp
  pub entry : ℕ
  pub after : ℕ

-- the numbers of an AVP, and those of a log
abbrev pub numbers_per_avp : ℕ
numbers_per_avp = 9

abbrev pub log_numbers : ℕ
log_numbers = most_avps * numbers_per_avp

abbrev pub bit : Bool → ℕ
bit true = 1
bit false = 0

-- the first seven numbers of an AVP from a place on
abbrev pub numbers_at : List ℕ → ℕ → Avp → List ℕ
numbers_at log at a =
    set (set (set (set (set (set (set log at a.depth) (at + 1) a.vendor) (at + 2) a.code) (at + 3) (bit a.m))
    (at + 4) (bit a.p)) (at + 5) a.start) (at + 6) (end_of a)

-- an AVP whose data has its end in 32 bits
abbrev pub fits_log : Avp → Bool
fits_log a = ltb (end_of a) (2 ^ 32)

-- the log with an AVP at a position, where both fit; its entry and the position after its descendants stay
unfoldable pub put_avp : List ℕ → ℕ → Avp → List ℕ
put_avp log i a = cond (ltb i most_avps && fits_log a) (numbers_at log (i * numbers_per_avp) a) log

-- the log with the entry of the AVP at a position, and the position after its last descendant, where both fit
unfoldable pub put_family : List ℕ → ℕ → ℕ → ℕ → List ℕ
put_family log i entry after =
    cond (ltb i most_avps && leb after most_avps)
    (set (set log (i * numbers_per_avp + 7) entry) (i * numbers_per_avp + 8) after)
    log

-- all nine
abbrev pub put_logged : List ℕ → ℕ → Logged → List ℕ
put_logged log i l = put_family (put_avp log i l.avp) i l.entry l.after

-- the log with AVPs put in from a position on
abbrev pub put_all : List ℕ → ℕ → List Logged → List ℕ
put_all log i [] = log
put_all log i (l ∷ ls) = put_all (put_logged log i l) (i + 1) ls

-- the nine numbers of a position
pub record AreNumbersOf (log : List ℕ) (i : ℕ) (numbers : List ℕ) : Type 0 where
  pub within : i < most_avps
  pub each : (k : ℕ) → k < numbers_per_avp → get_or numbers k 0 ≡ get_or log (i * numbers_per_avp + k) 0

-- the AVP of seven numbers from a place on
abbrev pub avp_from : List ℕ → ℕ → Avp
avp_from log at = record {
  depth = get_or log at 0;
  vendor = get_or log (at + 1) 0;
  code = get_or log (at + 2) 0;
  m = eqb (get_or log (at + 3) 0) 1;
  p = eqb (get_or log (at + 4) 0) 1;
  start = get_or log (at + 5) 0;
  length = get_or log (at + 6) 0 - get_or log (at + 5) 0;
}

unfoldable pub avp_of : List ℕ → ℕ → Avp
avp_of log i = cond (ltb i most_avps) (avp_from log (i * numbers_per_avp)) blank

-- the number of an entry in an octet: 255, which is no entry's, for any above it and where there is no place
abbrev pub no_number : ℕ
no_number = 255

unfoldable pub entry_at : List ℕ → ℕ → ℕ
entry_at log i = cond (ltb i most_avps) (min (get_or log (i * numbers_per_avp + 7) 0) no_number) no_number

-- the position after the last descendant: behind the AVP itself, whatever a log holds; 256 where there is no place
unfoldable pub after_at : List ℕ → ℕ → ℕ
after_at log i = cond (ltb i most_avps) (max (i + 1) (get_or log (i * numbers_per_avp + 8) 0)) most_avps

-- what a log keeps at a position
abbrev pub logged_of : List ℕ → ℕ → Logged
logged_of log i = record { avp = avp_of log i; entry = entry_at log i; after = after_at log i }

-- the next n AVPs from a position on
unfoldable pub avps_from : List ℕ → ℕ → ℕ → List Avp
avps_from log i zero = []
avps_from log i (suc n) = avp_of log i ∷ avps_from log (i + 1) n

-- the AVPs of a log with this count; a count above 256 is read as 256
unfoldable pub avps_in : List ℕ → ℕ → List Avp
avps_in log count = avps_from log 0 (min count most_avps)
