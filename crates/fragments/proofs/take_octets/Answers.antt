-- `fragments::take_octets` meets its contract.
use mathlib.Core.Path.{◌≡◌, sym, ap, ◌∙◌}
use mathlib.Core.Bool.{true}
use mathlib.Core.List.{List}
use Prim.Native.Nat.{ℕ, ◌+◌, ◌-◌, ◌≤◌}
use native.Mathlib.Omega.{arith}
use lib.ListN.{length, take, drop}
use lib.Seq.{length-take-le}
use Rattle.rules.specs.declared.Verdict.{Verdict}
use Rattle.rules.specs.Header.{length_field}
use Rattle.fragments.specs.declared.Progress.TheVariants.{Refusal}
use Rattle.fragments.specs.Link.{state, step_by, field_end, is_length}
use Rattle.fragments.specs.Promise.{CanTake, Filled}
use Rattle.fragments.proofs.Goals.{length-bounds}
use Rattle.fragments.proofs.Calls.{held_below}
use Rattle.fragments.proofs.Fills.{Begun, Stands, Resumed, begun_below, ends_short, ends_refused, command_fits, begun_within, ends_unfinished, command_stored, ends_command}
use Rattle.fragments.proofs.take_octets.Goals as goal

-- octets are stored up to the fourth
abbrev begun : {held : ℕ} {fragment buffer after : List ℕ} {first : ℕ} → CanTake held buffer
    → Filled buffer held fragment field_end first after → Begun
begun {held = held} {fragment = fragment} {buffer = buffer} {after = after} {first = first} can filled =
    record { held = held; fragment = fragment; buffer = buffer; can = can; first = first; after = after; filled = filled }

-- the length field stands
abbrev stands : (x : Begun) {size : ℕ} → field_end ≤ x.held + x.first → size ≡ length_field x.after → Stands x
stands x {size = size} four field = record { four = four; size = size; field = field }

-- octets are stored up to the command's end
abbrev resumed : (x : Begun) (y : Stands x) {second : ℕ} {after : List ℕ} → is_length y.size ≡ true
    → Filled x.after (x.held + x.first) (take (length x.fragment - x.first) (drop x.first x.fragment)) y.size second after
    → Resumed x y
resumed x y {second = second} {after = after} right filled =
    record { right = right; second = second; after = after; filled = filled }

pub fill-first-requires : goal.fill-first-requires
fill-first-requires c =
    let can = c.requires in
    let a = c.args in
    let below = held_below (state a.held 0) a.fragment.now a.buffer.now can.room can.usable in
    (omega (arith, can.room), omega (arith, can.room))

pub returns-then-begun-lt-FIELD_END : goal.returns-then-begun-lt-FIELD_END
returns-then-begun-lt-FIELD_END c =
    ends_short (begun c.requires c.fill-first.ensures) c.if-begun-lt-FIELD_END.true _ c.step_by.ensures _

pub step_by-requires-then-not-is_length : goal.step_by-requires-then-not-is_length
step_by-requires-then-not-is_length c = begun_below (begun c.requires c.fill-first.ensures)

pub returns-then-not-is_length : goal.returns-then-not-is_length
returns-then-not-is_length c =
    let x : Begun = begun c.requires c.fill-first.ensures in
    let y : Stands x = stands x c.if-begun-lt-FIELD_END.false c.number3-length.ensures.is in
    let said = c.length_refusal.ensures in
    ends_refused x y (sym c.is_length.ensures ∙ c.if-not-is_length.true) _
    (c.step_by-then-not-is_length.ensures ∙ ap (λ (v : Verdict). step_by x.first (x.held + x.first) (Refusal v)) said) _

pub fill-requires : goal.fill-requires
fill-requires c =
    let x : Begun = begun c.requires c.fill-first.ensures in
    let y : Stands x = stands x c.if-begun-lt-FIELD_END.false c.number3-length.ensures.is in
    let e = sym c.is_length.ensures ∙ c.if-not-is_length.false in
    let fits = command_fits x y e in
    (omega (arith, fits, begun_within x y e), fits)

pub step_by-requires-then-held-taken : goal.step_by-requires-then-held-taken
step_by-requires-then-held-taken c =
    omega (arith, length-bounds c.number3-length.result (sym c.is_length.ensures ∙ c.if-not-is_length.false), c.if-held-taken.true)

pub returns-then-held-taken : goal.returns-then-held-taken
returns-then-held-taken c =
    let x : Begun = begun c.requires c.fill-first.ensures in
    let y : Stands x = stands x c.if-begun-lt-FIELD_END.false c.number3-length.ensures.is in
    ends_unfinished x y (resumed x y (sym c.is_length.ensures ∙ c.if-not-is_length.false) c.fill.ensures)
    c.if-held-taken.true _ c.step_by-then-held-taken.ensures _

pub slice_bounds-verdict-end : goal.slice_bounds-verdict-end
slice_bounds-verdict-end c =
    let x : Begun = begun c.requires c.fill-first.ensures in
    let y : Stands x = stands x c.if-begun-lt-FIELD_END.false c.number3-length.ensures.is in
    command_stored x y (resumed x y (sym c.is_length.ensures ∙ c.if-not-is_length.false) c.fill.ensures)

pub slice_bounds-verdict-end-2 : goal.slice_bounds-verdict-end-2
slice_bounds-verdict-end-2 c =
    let x : Begun = begun c.requires c.fill-first.ensures in
    let y : Stands x = stands x c.if-begun-lt-FIELD_END.false c.number3-length.ensures.is in
    sym (length-take-le _ _ (command_stored x y (resumed x y (sym c.is_length.ensures ∙ c.if-not-is_length.false) c.fill.ensures)))

pub returns : goal.returns
returns c =
    let x : Begun = begun c.requires c.fill-first.ensures in
    let y : Stands x = stands x c.if-begun-lt-FIELD_END.false c.number3-length.ensures.is in
    ends_command x y (resumed x y (sym c.is_length.ensures ∙ c.if-not-is_length.false) c.fill.ensures)
    c.if-held-taken.false _ _ _ c.verdict-verdict.ensures _ c.step_by-2.ensures
