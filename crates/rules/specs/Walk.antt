-- 01, Order of checks, Walk: the seven checks of an AVP, each in 01's words and order, and the walk of a list, which
-- gives the AVPs in walk order or stops at the first fault. The dictionary is an argument throughout; an AVP's fields
-- are in Avp.
use Rattle.std.specs.Prelude.{ℕ, zero, suc, ◌+◌, ◌-◌, ◌%◌, List, [], ◌∷◌, ◌++◌, Bool, true, false, cond, not, ◌&&◌, ◌||◌, length, ltb, leb, eqb, Err, Ok}
use Rattle.rules.specs.declared.Avp.{Avp}
use Rattle.rules.specs.declared.Verdict.{Verdict}
use Rattle.rules.specs.Octets.{number_at, padded}
use Rattle.rules.specs.Verdict.{verdict, refused, refuse_if, Outcome, no_refusal}
use Rattle.rules.specs.Header.{vendor_3gpp}
use Rattle.rules.specs.Avp.{code_at, flags_at, flag_v, length_at, header_of, vendor_at, next_at, avp_at, named, end_of}
use Rattle.rules.specs.declared.Entry.{Entry}
use Rattle.rules.specs.Dictionary.{defined, requires_m, is_known, is_group, fits_width, Definition}

-- where a walk stands: at a place of a list that ends at `end` and is at this depth, with `count` AVPs in the record
pub record Standing : Type 0 where
  pub at : ℕ
  pub end : ℕ
  pub depth : ℕ
  pub count : ℕ

-- a standing by its four numbers
abbrev pub standing : ℕ → ℕ → ℕ → ℕ → Standing
standing at end depth count = record { at = at; end = end; depth = depth; count = count }

-- the record has room for 256 AVPs
abbrev pub most_avps : ℕ
most_avps = 256

-- an AVP stands no deeper than 4, and a read group, also an empty one, no deeper than 3
abbrev pub deepest : ℕ
deepest = 4

-- check 1: 256 AVPs stand in the record already. 7002 and check 7's 7003 are the lab's and never go on the wire
abbrev pub is_full : Standing → Bool
is_full w = leb most_avps w.count

-- check 2, of the list's octets from `at` to `end`. The code is given if 8 octets are left, the vendor if V is set and
-- 12 are
unfoldable pub framing : List ℕ → ℕ → ℕ → Outcome
framing s at end =
    -- under 8 octets left in the list
    refuse_if (ltb (end - at) (header_of false)) (refused 5014 at 0 0)
    -- V set with under 12 left
    (refuse_if (flag_v (flags_at s at) && ltb (end - at) (header_of true)) (refused 5014 at 0 (code_at s at))
    -- a length below 8 (12 with V)
    (refuse_if (ltb (length_at s at) (header_of (flag_v (flags_at s at)))) (refused 5014 at (vendor_at s at) (code_at s at))
    -- a padded length beyond the list
    (refuse_if (ltb (end - at) (padded (length_at s at))) (refused 5014 at (vendor_at s at) (code_at s at))
    no_refusal)))

-- check 3, of the AVP's flags octet
unfoldable pub wrong_flags : ℕ → Avp → Definition → Bool
wrong_flags flags a d =
    -- a reserved flag set
    not (eqb (flags % 32) 0)
    -- V set with vendor 0
    || flag_v flags && eqb a.vendor 0
    -- M clear where the dictionary has M
    || requires_m d && not a.m

-- check 4: not in the dictionary and M set
unfoldable pub unsupported : Avp → Definition → Bool
unsupported a d = not (is_known d) && a.m

-- check 5: a fixed width not met
unfoldable pub wrong_width : Avp → Definition → Bool
wrong_width a d = not (fits_width d a.length)

-- check 6, of the value of the data
unfoldable pub wrong_value : Avp → ℕ → Bool
wrong_value a n =
    -- 277 not 1
    cond (named a 0 277) (not (eqb n 1))
    -- 4203 neither 0 nor 1
    (cond (named a vendor_3gpp 4203) (not (eqb n 0) && not (eqb n 1))
    false)

-- check 7: a group at depth 4 (the command's own list is depth 1)
unfoldable pub too_deep : Avp → Definition → Bool
too_deep a d = is_group d && leb deepest a.depth

-- checks 3 to 7 of the AVP at a place, with what the dictionary says of its name
unfoldable pub contents : List ℕ → ℕ → Avp → Definition → Outcome
contents s at a d =
    refuse_if (wrong_flags (flags_at s at) a d) (refused 3009 at a.vendor a.code)
    (refuse_if (unsupported a d) (refused 5001 at a.vendor a.code)
    (refuse_if (wrong_width a d) (refused 5014 at a.vendor a.code)
    (refuse_if (wrong_value a (number_at 4 s a.start)) (refused 5004 at a.vendor a.code)
    (refuse_if (too_deep a d) (refused 7003 at a.vendor a.code)
    no_refusal))))

-- what the checks say of an AVP: the fault, an AVP that holds no list, or a group whose data is read as a list
pub data Checked : Type 0 where
  Fault : Verdict → Checked
  Plain : Avp → Checked
  Group : Avp → Checked

-- a refusal is the answer, else the AVP
abbrev pub settled : Outcome → Checked → Checked
settled (Ok u) c = c
settled (Err v) c = Fault v

-- checks 3 to 7 of an AVP, and whether its data is a list
abbrev pub checked_avp : List Entry → List ℕ → ℕ → Avp → Checked
checked_avp dict s at a = settled (contents s at a (defined dict a)) (cond (is_group (defined dict a)) (Group a) (Plain a))

-- the seven checks of the AVP where a walk stands
unfoldable pub checked : List Entry → List ℕ → Standing → Checked
checked dict s w =
    cond (is_full w) (Fault (verdict 7002 w.at 0 0))
    (settled (framing s w.at w.end)
    (checked_avp dict s w.at (avp_at s w.at w.depth)))

-- how a walk ended, with the AVPs that it met: the list is whole, or the walk stopped at a fault
pub data Walked : Type 0 where
  whole : List Avp → Walked
  stopped : List Avp → Verdict → Walked

-- the AVPs that a walk met
abbrev pub avps_of : Walked → List Avp
avps_of (whole xs) = xs
avps_of (stopped xs v) = xs

-- what a walk says of its command: no fault so far, or the fault at which it stopped
abbrev pub stop_of : Walked → Outcome
stop_of (whole xs) = no_refusal
stop_of (stopped xs v) = Err v

-- a walk with AVPs before it
abbrev pub after : List Avp → Walked → Walked
after xs (whole ys) = whole (xs ++ ys)
after xs (stopped ys v) = stopped (xs ++ ys) v

-- go on, unless the walk stopped; what goes on is told how many AVPs there were
abbrev pub and_then : Walked → (ℕ → Walked) → Walked
and_then (whole xs) f = after xs (f (length xs))
and_then (stopped xs v) f = stopped xs v

-- the list of a group's members, right after the group and one deeper
abbrev pub in_group : Standing → Avp → Standing
in_group w a = record { at = a.start; end = end_of a; depth = w.depth + 1; count = w.count + 1 }

-- the rest of the list behind an AVP, which with its members was this many AVPs
abbrev pub behind : List ℕ → Standing → ℕ → Standing
behind s w k = record { at = next_at s w.at; end = w.end; depth = w.depth; count = w.count + k }

-- what follows of an AVP that was checked, given the list walk: a group is read as a list. Any other AVP is not looked
-- into, 279, 621, 623, 650 and unknown ones among them, whatever they hold (01, Not judged)
abbrev pub entered : (Standing → Walked) → Standing → Checked → Walked
entered list w (Fault v) = stopped [] v
entered list w (Plain a) = whole (a ∷ [])
entered list w (Group a) = after (a ∷ []) (list (in_group w a))

-- the AVP walk, given the list walk
unfoldable pub walk_avp : (Standing → Walked) → List Entry → List ℕ → Standing → Walked
walk_avp list dict s w = entered list w (checked dict s w)

-- the list walk: a list reads its AVPs up to its end. The first argument bounds the steps; as many as there are octets
-- left are enough, and more change nothing (proofs/Steps)
unfoldable pub walk_list : ℕ → List Entry → List ℕ → Standing → Walked
walk_list zero dict s w = whole []
walk_list (suc n) dict s w =
    cond (ltb w.at w.end)
    (and_then (walk_avp (walk_list n dict s) dict s w) (λ k. walk_list n dict s (behind s w k)))
    (whole [])
