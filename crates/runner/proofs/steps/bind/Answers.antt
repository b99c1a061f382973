-- `runner::steps::bind` meets its contract: a `let` puts the value behind the last variable, every other kind changes nothing. Assumes nothing.
use Rattle.script.specs.Code.Forms.{form_of, several_by}
use Rattle.script.specs.Rows.{rows, row_of}
use Rattle.operators.specs.Steps.Operators.{bound-next, bound-same, bound-other}
use Rattle.runner.proofs.steps.bind.Goals as goal

pub returns-then-node-eq-LET : goal.returns-then-node-eq-LET
unfolding several_by form_of row_of rows
returns-then-node-eq-LET c =
    rw (c.if-node-eq-LET.true, c.store.ensures) (bound-next c.requires.variables c.requires.in_range)

pub returns : goal.returns
returns c =
    rw (bound-other c.args.node c.args.v _ c.if-node-eq-LET.false) (bound-same c.requires.variables)
