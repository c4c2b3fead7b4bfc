-- The demands on the answers: which check decides, in 01's order, for a command and for a write call, and with which
-- place, vendor and code. Above each: the words that it meets, what carries it, and two wrong systems that it rules
-- out. The claims stand in rules/specs/Order.
use mathlib.Core.Path.{◌≡◌, refl, ap, ◌∙◌}
use Rattle.std.specs.Prelude.{Err}
use mathlib.Core.Bool.{true, false}
use mathlib.Core.List.{List}
use Prim.Native.Nat.{ℕ, ◌≤◌}
use borrow.Author.Tests.{ltb-true, ltb-false, ne_eqb}
use lib.Dec.{ltb}
use lib.ListN.{length}
use Rattle.rules.specs.declared.Avp.{Avp}
use Rattle.rules.specs.declared.Verdict.{Verdict}
use Rattle.rules.specs.Verdict.{writer_only_numbers, is_among, refused, or_else, verdict, verdict_of, no_refusal}
use Rattle.rules.specs.Header.{header_outcome, longest_command}
use Rattle.rules.specs.Walk.{Walked, whole, stopped}
use Rattle.rules.specs.RowChecks.{rows_outcome}
use Rattle.rules.specs.Exchange.{exchange_by}
use Rattle.rules.specs.Command.{walk_of, lists_outcome, walked_outcome, command_outcome, command_verdict}
use Rattle.rules.specs.Draft.{Draft, is_well_formed}
use Rattle.rules.specs.Writer.{draft_octets, own_outcome, draft_outcome, octets_written, writing}
use Rattle.rules.specs.Demands.{AcceptedCommand}
use Rattle.rules.specs.Order.{fits_table, own_rows, group_rows, exchange, windows, FirstListFault, FirstFault, own_refusal, WriterOrder, own_numbers, WriterValues}
use Rattle.rules.proofs.Writer.{by_form, by_length, by_room, none_own}
use Rattle.rules.proofs.Walk.{by_cases}
use Rattle.rules.proofs.demands.items.Lists.{not_both}
use Rattle.rules.proofs.demands.numbering.Numbering.{command_fits, command_within, command_not_writers}
use Rattle.rules.proofs.demands.Demands.{demand_2_accepted}

-- ---- a command

module _ (c : List ℕ) where
  by_header : (v : Verdict) → header_outcome c ≡ Err v → command_verdict c ≡ v
  unfolding command_verdict command_outcome
  by_header v h = rw h

  module _ (headed : header_outcome c ≡ no_refusal) where
    by_walk : (w : Walked) → walk_of c ≡ w → command_verdict c ≡ verdict_of (walked_outcome c w)
    unfolding command_verdict command_outcome
    by_walk w e = rw (headed, e)

    module _ (xs : List Avp) (walked : walk_of c ≡ whole xs) where
      by_lists : command_verdict c ≡ verdict_of (or_else (or_else (own_rows c xs) (group_rows c xs)) (or_else (exchange c xs) (windows c xs)))
      unfolding lists_outcome rows_outcome exchange_by
      by_lists = by_walk (whole xs) walked

      list_faults : FirstListFault c xs
      list_faults =
          record {
            own = λ v a. by_lists ∙ rw a;
            groups = λ v a b. by_lists ∙ rw (a, b);
            rules = λ v a b e. by_lists ∙ rw (a, b, e);
            times = λ v a b e w. by_lists ∙ rw (a, b, e, w);
            none = λ a b e w. by_lists ∙ rw (a, b, e, w);
          }

-- "the first that applies is the answer" (01, Order of checks): header, walk, the rows of the command's list, those of
-- each group, exchange rules, windows; where none applies, the command is accepted.
-- Carried by the definition of command_outcome (rules/specs/Command) alone.
-- Ruled out: a reader that reports row faults before a later 5014; one that reports faults in the order in which it
-- meets them, so that a group's row fault comes before a later fault of the command's own list.
pub demand_2_first_fault : (c : List ℕ) → FirstFault c
demand_2_first_fault c =
    record {
      header = by_header c;
      walk = λ xs v h w. by_walk c h (stopped xs v) w;
      lists = λ xs h w. list_faults c h xs w;
    }

-- 01, What comes back: "0: accepted; place, vendor and code 0".
-- Carried by demand_2_accepted.
-- Ruled out: an accepted command that comes back with the place where the walk ended; one with the name of its last
-- AVP.
pub demand_2_accepted_verdict : (c : List ℕ) → AcceptedCommand c → command_verdict c ≡ verdict 0 0 0 0
unfolding command_verdict
demand_2_accepted_verdict c a = ap verdict_of ((demand_2_accepted c).0 a)

-- "Every refusal carries place, vendor and code [...] Header refusals and 7002 have vendor and code 0" (01, What comes
-- back): the place of a header refusal is that of the field at fault, and 5015, which stands at 0 or 1, names none.
-- Carried by header_meets and walk_meets (numbering/Refusals), rows_meets and exchange_meets (numbering/ListRefusals).
-- Ruled out: a reader whose 3001 stands at place 8, as 3007 does; one whose 7002 carries the name of the 257th AVP.
pub demand_1_header_places : (c : List ℕ) → fits_table (command_verdict c) ≡ true
demand_1_header_places = command_fits

-- ---- a write call

module _ (d : Draft) (out : List ℕ) where
  -- a refusal of the writer's own is the answer, and nothing is written
  own_refusal_lem : (number : ℕ) → own_outcome d (length out) ≡ refused number 0 0 0 → writing d out ≡ own_refusal number
  unfolding writing draft_outcome octets_written
  own_refusal_lem number e = rw e

  by_reader : own_outcome d (length out) ≡ no_refusal → (writing d out).verdict ≡ command_verdict (draft_octets d)
  unfolding writing draft_outcome command_verdict
  by_reader e = rw e

-- "Order: 7006 [...]; 7001 if the command would exceed 16,384; 7004; then the refusal that the reader gives to those
-- octets. Place, vendor and code are 0 for the first three; the length is 0 for all" (01, The record and the writer).
-- Carried by the laws of the writer's own refusals (proofs/Writer); for the reader's refusals the length
-- is in demand_1_refused_write.
-- Ruled out: a writer that says 7004 only of a command that the reader accepts; one whose 7001 stands at place 1, as
-- the reader's does.
pub demand_1_writer_order : (d : Draft) (out : List ℕ) → WriterOrder d out
demand_1_writer_order d out =
    record {
      malformed = λ h. own_refusal_lem d out 7006 (by_form d out h);
      long = λ form h. own_refusal_lem d out 7001 (by_length d out form h);
      short = λ form within h. own_refusal_lem d out 7004 (by_room d out form within h);
      reader = λ form within h. by_reader d out (none_own d out form within h);
    }

module _ (d : Draft) (out : List ℕ) where
  -- a refusal of the writer's own
  own_values : (number : ℕ) → is_among own_numbers number ≡ true → writing d out ≡ own_refusal number → WriterValues d out
  own_values number h e =
      record { own = λ k. rw e; reader = λ k. not_both (is_among own_numbers number) h (rw e at k) }

  -- the reader's answer to octets that are at most 16,384: its number is none of the writer's own
  reader_values : length (draft_octets d) ≤ longest_command → (writing d out).verdict ≡ command_verdict (draft_octets d)
      → WriterValues d out
  reader_values within e =
      let n = (command_verdict (draft_octets d)).number in
      let long = ne_eqb n 7001 (command_within (draft_octets d) within) in
      let not_own : is_among own_numbers n ≡ false = rw long (command_not_writers (draft_octets d)) in
      record { own = λ k. not_both (is_among own_numbers n) (rw e at k) not_own; reader = λ k. e }

-- "Place, vendor and code are 0 for the first three" (01, The record and the writer), read off the number that came
-- back: 7001, 7004 and 7006 are the writer's own, also 7001, since the reader gives it to no command of at most 16,384
-- octets; any other number comes with the reader's place, vendor and code.
-- Carried by demand_1_writer_order, command_within (numbering/Numbering) and demand_1_reader_number.
-- Ruled out: a writer that gives its own place, as the AVP's position in the draft, with a number of the reader; one
-- whose 7004 carries the missing octets as place.
pub demand_1_writer_values : (d : Draft) (out : List ℕ) → WriterValues d out
unfolding writer_only_numbers
demand_1_writer_values d out =
    let order = demand_1_writer_order d out in
    let size = length (draft_octets d) in
    by_cases (is_well_formed d)
    (λ form. by_cases (ltb longest_command size)
    (λ h. own_values d out 7001 refl (order.long form (ltb-true longest_command size h)))
    (λ h.
    let within = ltb-false longest_command size h in
    by_cases (ltb (length out) size)
    (λ k. own_values d out 7004 refl (order.short form within (ltb-true (length out) size k)))
    (λ k. reader_values d out within (order.reader form within (ltb-false (length out) size k)))))
    (λ form. own_values d out 7006 refl (order.malformed form))
