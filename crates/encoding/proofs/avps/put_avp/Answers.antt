-- `encoding::avps::put_avp` meets its contract.
use mathlib.Core.Path.{◌≡◌, sym, ◌∙◌}
use mathlib.Core.Bool.{false}
use Prim.Native.Nat.{ℕ, ◌+◌, ◌-◌, ◌≤◌}
use native.Mathlib.Omega.{arith}
use lib.ListN.{length, length-replicate}
use Rattle.rules.specs.Octets.{padded}
use Rattle.rules.proofs.Octets.{padded_least}
use Rattle.rules.proofs.demands.items.Sequences.{length-header}
use Rattle.output.proofs.Output.{put_fits}
use Rattle.draft.specs.Drafts.{draft_cell, is_group_avp}
use Rattle.encoding.proofs.Putting.{put_group, put_part, room_header, room_part, data_long}
use Rattle.encoding.proofs.avps.put_avp.Goals as goal
use Rattle.encoding.proofs.avps.put_avp.Goals.{After-padded_length-padded, Else-is_read_group}

-- the AVP is no read group
part : (c : Else-is_read_group) → is_group_avp c.args.a ≡ false
part c = sym c.is_read_group.ensures ∙ c.if-is_read_group.false

-- the room for the data with its padding, behind the header
room : (c : Else-is_read_group) →
    let a = c.args in
    c.put_header-data.result + padded a.a.length ≤ length a.out.now
room c =
    let a = c.args in
    let all = room_part a.s.now a.a c.requires.whole (part c) a.at _ c.requires.room in
    let next = (c.put_header-data.ensures a.s.now).ends in
    omega (arith, all, next, length-header (draft_cell a.s.now a.a))

-- the same, with the padded length that was found
padded_room : (c : After-padded_length-padded) →
    let a = c.args in
    c.put_header-data.result + padded a.a.length ≤ length a.out.now
    → (a.a.length ≤ c.padded_length-padded.result)
    × (c.put_header-data.result + c.padded_length-padded.result ≤ length a.out.now)
padded_room c h =
    let a = c.args.a in
    let size = c.padded_length-padded.ensures.0 in
    (omega (arith, size, padded_least a.length), omega (arith, size, h))

pub put_header-data-requires : goal.put_header-data-requires
put_header-data-requires c =
    room_header c.args.s.now c.args.a c.args.at _ c.requires.room

pub returns-then-is_read_group : goal.returns-then-is_read_group
returns-then-is_read_group c =
    let a = c.args in
    let group = sym c.is_read_group.ensures ∙ c.if-is_read_group.true in
    let header = c.put_header-data.ensures a.s.now in
    put_group a.s.now a.a c.requires.whole group a.out.now a.at _ _ header

pub overflow_add-data : goal.overflow_add-data
overflow_add-data c =
    let at = goal.at.overflow_add-data c in
    omega (arith, padded_room at.After-padded_length-padded (room at.Else-is_read_group))

pub overflow_add-result : goal.overflow_add-result
overflow_add-result c =
    let at = goal.at.overflow_add-result c in
    omega (arith, padded_room at.After-padded_length-padded (room at.Else-is_read_group))

pub returns : goal.returns
returns c =
    let at = goal.at.returns c in
    let a = c.args in
    let header = c.put_header-data.ensures a.s.now in
    let not_group = part at.Else-is_read_group in
    let fits = room at.Else-is_read_group in
    let long = data_long a.s.now a.a c.requires.whole not_group in
    let least = padded_least a.a.length in
    let run = put_fits _ _ _ a.a.length long (omega (arith, fits)) _ c.put_octets.ensures in
    let n = c.padded_length-padded.result - a.a.length in
    let zeros = put_fits _ _ _ n (length-replicate {A = ℕ} n 0)
    (omega (arith, padded_room at.After-padded_length-padded fits)) _ c.put_zeros.ensures in
    put_part a.s.now a.a c.requires.whole not_group a.out.now a.at _ _ header _ run _
    c.padded_length-padded.ensures.0 _ zeros
