-- `walk::walk_command` meets its contract.
use native.Mathlib.Omega.{arith}
use Rattle.dictionary.specs.Table.{dictionary_by}
use Rattle.walk.specs.Promise.{number_by}
use Rattle.walk.proofs.OwnList.{refused_walked, none_walked, command_walked}
use Rattle.walk.proofs.walk_command.Goals as goal

pub returns-then-s-gt-LONGEST_COMMAND : goal.returns-then-s-gt-LONGEST_COMMAND
returns-then-s-gt-LONGEST_COMMAND c =
    let a = c.args in
    let none = c.default.ensures.1.1 in
    rw (none.0, none.1)
    (refused_walked (dictionary_by a.table.now) (number_by a.table.now) a.s.now a.log.now (omega arith))

pub returns-then-s-lt-HEADER_SIZE : goal.returns-then-s-lt-HEADER_SIZE
returns-then-s-lt-HEADER_SIZE c =
    let a = c.args in
    none_walked (dictionary_by a.table.now) (number_by a.table.now) a.s.now (omega arith) a.log.now
    c.told-log c.if-s-lt-HEADER_SIZE.true

pub returns : goal.returns
returns c =
    let a = c.args in
    command_walked (dictionary_by a.table.now) (number_by a.table.now) a.s.now (omega arith) a.log.now
    c.walk_list.new.log c.walk_list.result c.told-log c.walk_list.ensures
