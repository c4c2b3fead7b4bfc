-- `link::main` calls as it must: what it makes of a read lies in the piece.
use Rattle.std.proofs.Common.{arith}
use Rattle.link.proofs.Inputs.{read_in_piece}
use Rattle.link.proofs.main.Goals as goal

pub put_printed-requires : goal.put_printed-requires
put_printed-requires c =
    read_in_piece _ (omega arith) _ _ c.input_of-input.ensures
