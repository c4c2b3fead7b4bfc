-- `encoding::put_command` meets its contract.
use Rattle.encoding.proofs.Commands.{command_put}
use Rattle.encoding.proofs.put_command.Goals as goal

pub returns : goal.returns
returns c =
    let a = c.args in
    command_put a.numbers.now a.s.now a.out.now a.size c.requires.long
    _ c.put_start.ensures _ c.put_identifiers.ensures _
    c.put_list.ensures
