-- `operators::steps::next_operand` meets its contract: of an `if` the branch that the condition takes, of every other kind the second operand.
-- Assumes nothing.
use Rattle.std.proofs.Common.{sym}
use Rattle.script.specs.Code.Forms.{form_of}
use Rattle.script.specs.Rows.{rows, row_of}
use Rattle.operators.specs.Steps.{next_on}
use Rattle.operators.specs.Steps.Operators.{branch-wrong, next-other}
use Rattle.operators.proofs.steps.next_operand.Goals as goal

pub returns-then-t : goal.returns-then-t
unfolding next_on form_of row_of rows
returns-then-t c =
    rw (c.if-node-eq-IF.true, c.in-Truth.is, c.if-t.true)

pub returns-else-t : goal.returns-else-t
unfolding next_on form_of row_of rows
returns-else-t c =
    rw (c.if-node-eq-IF.true, c.in-Truth.is, c.if-t.false)

pub returns-in_default : goal.returns-in_default
unfolding next_on form_of row_of rows
returns-in_default c = rw (c.if-node-eq-IF.true, branch-wrong _ c.args.node.b c.args.node.c c.in_default.not-Truth)

pub returns : goal.returns
returns c =
    let a = c.args in
    sym (next-other a.v a.node c.if-node-eq-IF.false)
