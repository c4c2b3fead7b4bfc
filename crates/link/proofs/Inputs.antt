-- What the answer of a read says: octets that lie in the room, and a piece that is short.
use Rattle.std.proofs.Common.{◌≡◌, ℕ, ◌≤◌, Result, Ok, Err, arith}
use Rattle.std.specs.declared.io.Error.{Error}
use Rattle.link.specs.Promise.{piece_room, input_by, InRoom, InPiece}

module _ (room : ℕ) where
  pub read_in_room : (r : Result ℕ Error) → InRoom room (input_by r room)
  unfolding input_by
  read_in_room (Ok n) = omega arith
  read_in_room (Err e) = tt

  pub read_in_piece : room ≤ piece_room → (r : Result ℕ Error) (i : Result ℕ Error) → i ≡ input_by r room → InPiece room i
  read_in_piece h r i e = record { inside = rw e (read_in_room r); short = h }
