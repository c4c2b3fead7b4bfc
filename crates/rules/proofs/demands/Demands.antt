-- The demands, each in its own words over the definitions of rules/specs; the proofs are citations. Above each: the
-- words that it meets, what carries it, and two wrong systems that it rules out. What is claimed stands in rules/specs,
-- the claims that the demands alone make in rules/specs/Demands. That the program does what the definitions say is in
-- the contracts of reader and writer; docs/proved.md lists both.
use mathlib.Core.Path.{◌≡◌, sym, ap, ◌∙◌}
use mathlib.Core.Bool.{true, false}
use mathlib.Core.Logic.{◌↔◌}
use mathlib.Core.List.{List, ◌∷◌}
use Prim.Native.Nat.{ℕ, ◌≤◌}
use lib.ListN.{length}
use Rattle.rules.specs.Octets.{AreOctets}
use Rattle.rules.specs.Verdict.{reader_numbers, writer_only_numbers, writer_numbers, is_among, no_refusal}
use Rattle.rules.specs.Command.{command_outcome, command_verdict}
use Rattle.rules.specs.Record.{empty_record, reading}
use Rattle.rules.specs.Meaning.{meaning_of, meaning_over}
use Rattle.rules.specs.Agreement.{Agree}
use Rattle.rules.specs.Draft.{Draft, own_draft}
use Rattle.rules.specs.Writer.{draft_outcome, writing}
use Rattle.rules.specs.Calls.{all_written, accepted_drafts, SameInOrder}
use Rattle.rules.specs.Demands.{AcceptedCommand, AcceptedWrite, Unaltered, WroteMeaning, Rewritten, WholeOutput}
use Rattle.rules.proofs.demands.numbering.Numbering.{command_number, draft_number, command_table, command_not_writers, draft_table}
use Rattle.rules.proofs.demands.again.RoundTrip.{record_means, draft_accepted, draft_written, written_long}
use Rattle.rules.proofs.demands.agreement.Agreement.{same_meaning}
use Rattle.rules.proofs.demands.calls.Calls.{front_long, front_is, same_written, output_is}
use Rattle.rules.proofs.demands.calls.Answers.{empty_read, none_written, unaltered, nothing_told, same_part, front_accepted, front_means, written_told}

-- ---- demand 1: the answer, and refusals

-- "Every public entry takes whatever octets or drafts it is handed and ends with the one answer that document 01
-- fixes": the number is 0 or one of 01's table, and the reader gives none of those that only the writer has.
-- Carried by header_meets and walk_meets (numbering/Refusals), rows_meets and exchange_meets (numbering/ListRefusals).
-- Ruled out: a reader that gives a number of RFC 6733 that 01 does not list, as 5012 for whatever else is wrong; one
-- that says 7004 or 7006, which a caller takes for a fault of the draft.
pub demand_1_reader_number : (c : List ℕ)
    → (is_among (0 ∷ reader_numbers) (command_verdict c).number ≡ true)
    × (is_among writer_only_numbers (command_verdict c).number ≡ false)
demand_1_reader_number c = (command_table c, command_not_writers c)

pub demand_1_writer_number : (d : Draft) (out : List ℕ)
    → is_among (0 ∷ writer_numbers) (writing d out).verdict.number ≡ true
demand_1_writer_number = draft_table

-- "A refused command yields the empty record".
-- Carried by command_number (numbering/Numbering) and the definition of `reading` (rules/specs/Record).
-- Ruled out: a reader that hands back the AVPs met before the fault; one that hands back the last command's record.
pub demand_1_refused_command : (c : List ℕ) → (AcceptedCommand c → ⊥) → (reading c).«record» ≡ empty_record
demand_1_refused_command = empty_read

-- "a refused write leaves the output buffer unaltered"; 01: after a refused call the next one gets the same part.
-- Carried by draft_number (numbering/Numbering) and none_written (calls/Answers).
-- Ruled out: a writer that writes as it goes and finds the fault later; one that blanks the output on a refusal.
pub demand_1_refused_write : (d : Draft) (out : List ℕ) → (AcceptedWrite d out → ⊥) → Unaltered d out
demand_1_refused_write d out n =
    let none = none_written d out n in
    record { output = unaltered d out none; none = nothing_told d out none; part = same_part d out none }

-- ---- demand 2: acceptance, the record, and writing it

-- "A command is accepted exactly when it meets RFC 6733 and TS 29.154 as document 01 lists them": the number is 0
-- exactly when no check applies, for commands and for write calls.
-- Carried by what carries demand_1_reader_number, since the table's refusals lack 0.
-- Ruled out: a refusal with the number 0, which the night script would take for a pass; an accepted command that
-- comes back with the number of some fault.
pub demand_2_accepted : (c : List ℕ) → AcceptedCommand c ↔ (command_outcome c ≡ no_refusal)
demand_2_accepted = command_number

pub demand_2_accepted_write : (d : Draft) (out : List ℕ) → AcceptedWrite d out ↔ (draft_outcome d (length out) ≡ no_refusal)
demand_2_accepted_write = draft_number

-- 01: "The returned record, over the command's octets, has the command's meaning."
-- Carried by sound (read/Soundness: what is read was written) and accepted_items (read/Commands).
-- Ruled out: a record with a made-up count; one that leaves out the members of groups, or gives their data places
-- within the group instead of the command.
pub demand_2_record : (c : List ℕ) → AreOctets c → AcceptedCommand c → meaning_over (reading c).«record» c ≡ meaning_of c
demand_2_record c oct a = record_means c oct ((command_number c).0 a)

-- 01: "Acceptance returns 0 and the written length"; what an accepted call wrote is an accepted command with the
-- draft's meaning. It is read off the answer and the output: `front`.
-- Carried by draft_meaning_lem (written/Drafts: an accepted draft's octets have its meaning) and full (written/Read: what
-- is written is read).
-- Ruled out: a writer that writes nothing, since no empty slice is accepted; one that accepts a draft whose octets the
-- reader refuses, or takes for another command.
pub demand_2_draft : (d : Draft) (out : List ℕ) → AcceptedWrite d out → WroteMeaning d out
demand_2_draft d out a =
    record { accepted = front_accepted d out a; means = front_means d out a; long = front_long d out }

-- "Writing an accepted command's record with its octets, given room, gives an accepted command with the same meaning."
-- Room is the command's own length.
-- Carried by draft_accepted (again/RoundTrip), again_accepted (again/Canonical: the checks read no padding and no
-- reserved bit), demand_2_record and demand_2_draft.
-- Ruled out: a writer that refuses what the reader accepts, as one that takes a group's length without its last
-- member's padding; one that writes a command shorter or longer than the one that was read.
pub demand_2_rewrite : (c out : List ℕ) → AreOctets c → AcceptedCommand c → length c ≤ length out → Rewritten c out
demand_2_rewrite c out oct a room =
    let pass = (command_number c).0 a in
    let d = own_draft c in
    let call = (draft_number d out).1 (draft_accepted c oct pass out room) in
    let w = demand_2_draft d out call in
    record {
      call = call;
      again = w.accepted;
      means = w.means ∙ demand_2_record c oct a;
      long = sym w.long ∙ ap length (front_is d out ∙ draft_written c oct pass out room) ∙ written_long c oct pass;
    }

-- ---- demand 3

-- "Any two accepted commands have the same meaning exactly when they agree in every octet outside padding and the four
-- reserved command bits." `agree` computes whether they do: agree_tells (agreement/Tested).
-- Carried by same_octets and same_flats (agreement/Alike), same_cells (agreement/Depths: depths follow from the rest)
-- and accepted_items (read/Commands: the items of an accepted command).
-- Ruled out: a meaning of the AVP texts run together, so that two commands with their octets cut at different places
-- have one; a meaning that holds the padding or the reserved bits, so that a command rewritten has another.
pub demand_3_commands : (a b : List ℕ) → AreOctets a → AreOctets b → AcceptedCommand a → AcceptedCommand b
    → (meaning_of a ≡ meaning_of b) ↔ Agree a b
demand_3_commands a b oa ob ka kb = same_meaning a b oa ob ((command_number a).0 ka) ((command_number b).0 kb)

-- "Now take any two lists of write calls, of any length, with whatever drafts and whatever room, refused calls
-- included. [...] After both lists, the octets that each has written end to end are the same exactly when the accepted
-- drafts are equally many in both and, taken in order, have the same meaning." One claim about both lists; the accepted
-- drafts are those whose answer has the number 0. A draft stands here with its octets as they are at its call, whatever
-- the calls before wrote; they do not lie in the part that the call gets, so the call leaves them as they are.
-- Carried by same_written (calls/Calls), draft_meaning_lem (written/Drafts: an accepted draft's octets have its meaning)
-- and head_written (written/Writing: the length field cuts a command off from what follows).
-- Ruled out: a writer whose commands have no length of their own, so that two lists join to the same octets with
-- different cuts, which one claim for each call does not see; a writer that leaves out T or an identifier, so that
-- drafts of different meaning write the same octets.
pub demand_3_calls : (ds es : List Draft) (out out' : List ℕ)
    → (all_written ds out ≡ all_written es out') ↔ SameInOrder (accepted_drafts ds out) (accepted_drafts es out')
demand_3_calls = same_written

-- "every call gets what the calls before it left of it"; 01: octets past the written length are untouched.
-- Carried by output_is, front_is and rest_is (calls/Calls) and written_told (calls/Answers).
-- Ruled out: a call that writes over a command written before it; a writer that clears the room behind its command, or
-- whose answers say another length than it wrote.
pub demand_3_output : (ds : List Draft) (out : List ℕ) → WholeOutput ds out
demand_3_output ds out =
    let o = output_is ds out in
    record { output = o.0; told = written_told ds out; long = o.1 }
