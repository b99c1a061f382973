-- `notes::is_variable` meets its contract: only `var` is a variable's kind. Assumes nothing.
use Rattle.std.proofs.Common.{ne_eqb}
use Rattle.script.specs.Code.Forms.{form_of}
use Rattle.script.specs.Rows.{rows, row_of}
use Rattle.workspace.specs.Notes.{leaf_mentions}
use Rattle.workspace.specs.Notes.Mentions.{leaf-other}
use Rattle.notes.proofs.is_variable.Goals as goal

pub returns-then-node-eq-VAR : goal.returns-then-node-eq-VAR
unfolding leaf_mentions form_of row_of rows
returns-then-node-eq-VAR c = rw c.if-node-eq-VAR.true

pub returns-else-node-eq-VAR : goal.returns-else-node-eq-VAR
returns-else-node-eq-VAR c =
    let a = c.args in
    rw (ne_eqb a.node.kind 3 c.if-node-eq-VAR.false) (leaf-other a.node a.k c.if-node-eq-VAR.false)
