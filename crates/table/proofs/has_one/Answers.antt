-- `table::has_one` meets its contract: five kinds have one operand that is a node. Assumes nothing.
use mathlib.Core.Path.{sym}
use Rattle.script.specs.Code.Forms.{not_one}
use Rattle.script.specs.Rows.{rows, row_of, operand_count, takes_of, node_operands}
use Rattle.script.specs.Rows.Laws.{none_left, but}
use Rattle.table.proofs.has_one.Goals as goal

pub returns-in-6 : goal.returns-in-6
unfolding node_operands takes_of operand_count row_of rows
returns-in-6 c = rw c.in-6.is

pub returns-in-10 : goal.returns-in-10
unfolding node_operands takes_of operand_count row_of rows
returns-in-10 c = rw c.in-10.is

pub returns-in-11 : goal.returns-in-11
unfolding node_operands takes_of operand_count row_of rows
returns-in-11 c = rw c.in-11.is

pub returns-in-13 : goal.returns-in-13
unfolding node_operands takes_of operand_count row_of rows
returns-in-13 c = rw c.in-13.is

pub returns-in-14 : goal.returns-in-14
unfolding node_operands takes_of operand_count row_of rows
returns-in-14 c = rw c.in-14.is

pub returns-in_default : goal.returns-in_default
unfolding node_operands takes_of operand_count row_of rows
returns-in_default c =
    let r = c.in_default.in_default-own.rest in
    sym (not_one c.args.kind (but r.0.1 (but r.1 (but r.0.0.0.0.1 (but r.0.0.0.1 (but r.0.0.1 none_left))))))
