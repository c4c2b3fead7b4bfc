-- The name of a state: the canonical form of an accepted command (rules/specs/Canonical). The lab's second version
-- named states by the AVP texts run together, and two different commands got one name. Above each theorem: what carries
-- it, and two wrong systems that it rules out. That the program writes this form is in the contract of `canonical`.
use mathlib.Core.Path.{◌≡◌, sym, ap, ◌∙◌}
use mathlib.Core.Logic.{◌↔◌}
use mathlib.Core.List.{List}
use Prim.Native.Nat.{ℕ, ◌≤◌}
use lib.ListN.{length}
use Rattle.rules.specs.declared.Written.{Written}
use Rattle.rules.specs.Meaning.{meaning_of}
use Rattle.rules.specs.Agreement.{Agree}
use Rattle.rules.specs.Wire.{command_octets}
use Rattle.rules.specs.Canonical.{canonical_octets, canonical_front, HasForm, AcceptedCanonical, OwnWritten, RefusedCall, InTable}
use Rattle.rules.specs.Octets.{AreOctets}
use Rattle.rules.proofs.demands.numbering.Numbering.{command_number}
use Rattle.rules.proofs.demands.again.OwnForm.{refused_answer, short_answer, nothing_left, nothing_told, call_table, form_accepted, form_means, form_long, answer_is, output_is, accepted_command, accepted_room, room_accepted, front_form}
use Rattle.rules.specs.Demands.{AcceptedCommand}
use Rattle.rules.proofs.demands.Demands.{demand_3_commands}

-- ---- the form

-- The canonical form of an accepted command is accepted, has the command's meaning and length, and is its own form.
-- Carried by again_accepted, again_means and again_long (again/Canonical).
-- Ruled out: a name that is no command, so that it cannot be replayed against a node under test; a form that changes
-- when it is taken once more, so that a state read back from its name is a new one.
pub state_form : (c : List ℕ) → AreOctets c → AcceptedCommand c → HasForm c
unfolding canonical_octets
state_form c oct a =
    let pass = (command_number c).0 a in
    let means = form_means c oct pass in
    record {
      accepted = (command_number (canonical_octets c)).1 (form_accepted c oct pass);
      means = means;
      long = form_long c oct pass;
      again = ap command_octets means;
    }

-- ---- one name, one state

-- Two accepted commands have the same canonical form exactly when they have the same meaning.
-- Carried by again_means (again/Canonical): the meaning is read back from the form.
-- Ruled out: a name of the AVP texts run together, or one that leaves out T, an identifier or the depths, so that two
-- different commands are one state and the second is never explored; a name with padding or reserved bits in it, so
-- that one state is explored again under many names.
pub state_meaning : (a b : List ℕ) → AreOctets a → AreOctets b → AcceptedCommand a → AcceptedCommand b
    → (canonical_octets a ≡ canonical_octets b) ↔ (meaning_of a ≡ meaning_of b)
unfolding canonical_octets
state_meaning a b oa ob ka kb =
    let means-a = form_means a oa ((command_number a).0 ka) in
    let means-b = form_means b ob ((command_number b).0 kb) in
    (λ e. sym means-a ∙ ap meaning_of e ∙ means-b, λ e. ap command_octets e)

-- The same by the octets alone: exactly when they agree outside padding and the four reserved command bits.
-- Carried by state_meaning and demand_3_commands.
-- Ruled out: two commands that differ in a data octet under one name; two that differ in padding alone under two.
pub state_agree : (a b : List ℕ) → AreOctets a → AreOctets b → AcceptedCommand a → AcceptedCommand b
    → (canonical_octets a ≡ canonical_octets b) ↔ Agree a b
state_agree a b oa ob ka kb =
    let s = state_meaning a b oa ob ka kb in
    let d = demand_3_commands a b oa ob ka kb in
    (λ e. d.0 (s.0 e), λ g. s.1 (d.1 g))

-- ---- the calls

-- A call is accepted exactly when its command is and the output is no shorter than the command.
-- Carried by draft_outcome_lem (again/RoundTrip: of the writer's tests only the room is left) and form_long
-- (again/OwnForm).
-- Ruled out: a call that comes back with 7006 or 7001 for a command that the reader accepts; one that wants more room
-- than the command takes.
pub state_accepted : (c out : List ℕ) → AreOctets c
    → AcceptedCanonical c out ↔ (AcceptedCommand c × (length c ≤ length out))
state_accepted c out oct = (
  λ z.
      let pass = accepted_command c out z in
      ((command_number c).1 pass, accepted_room c oct pass out z),
  λ k. room_accepted c oct ((command_number c).0 k.0) out k.1,
)

-- A call for an accepted command answers and leaves what the writer does for the command's own record over its octets.
-- Carried by answer_is and output_is (again/OwnForm).
-- Ruled out: a form of its own with padding FF or a reserved bit set, which the writer never writes (01: padding and
-- reserved bits are 0); a call that tells another length than it wrote.
pub state_own : (c out : List ℕ) → AreOctets c → AcceptedCommand c → OwnWritten c out
state_own c out oct a =
    let pass = (command_number c).0 a in
    record { answer = sym (answer_is c oct pass out); output = sym (output_is c oct pass out) }

-- A refused call leaves the output as it was and says the length 0; its verdict is the reader's where the command is
-- refused, and else 7004.
-- Carried by refused_answer and short_answer (again/OwnForm).
-- Ruled out: a call that writes as far as the output reaches; one that hides the reader's refusal behind 7004.
pub state_refused : (c out : List ℕ) → (AcceptedCanonical c out → ⊥) → RefusedCall c out
state_refused c out n =
    record {
      output = nothing_left c out n;
      none = nothing_told c out n;
      reader = λ r. ap (λ (w : Written). w.verdict) (refused_answer c out r);
      short = λ a. ap (λ (w : Written). w.verdict) (short_answer c out n ((command_number c).0 a));
    }

-- The number of a call is 0 or one of 01's table.
-- Carried by demand_1_reader_number.
-- Ruled out: a call with a number of its own for an output that is too short.
pub state_number : (c out : List ℕ) → InTable c out
state_number = call_table

-- What an accepted call wrote is the canonical form of its command, whatever the output held before.
pub state_written : (c out : List ℕ) → AcceptedCanonical c out → canonical_front c out ≡ canonical_octets c
state_written = front_form

-- Two accepted calls, each with an output of its own, wrote the same octets exactly when their commands have the same
-- meaning.
-- Carried by state_written and state_meaning.
-- Ruled out: a set of states by what was written that holds two different commands as one; one that grows with the room
-- or with what the output held before.
pub state_calls : (a b out out' : List ℕ) → AreOctets a → AreOctets b → AcceptedCanonical a out → AcceptedCanonical b out'
    → (canonical_front a out ≡ canonical_front b out') ↔ (meaning_of a ≡ meaning_of b)
state_calls a b out out' oa ob ka kb =
    let wrote-a = state_written a out ka in
    let wrote-b = state_written b out' kb in
    let s = state_meaning a b oa ob ((state_accepted a out oa).0 ka).0 ((state_accepted b out' ob).0 kb).0 in
    (λ e. s.0 (sym wrote-a ∙ e ∙ wrote-b), λ e. wrote-a ∙ s.1 e ∙ sym wrote-b)
