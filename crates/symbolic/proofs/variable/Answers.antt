-- `symbolic::variable` meets its contract: the variables are the first values. Assumes nothing.
use Rattle.workspace.specs.Rules.Operators.{variable-found, variable-unknown}
use Rattle.symbolic.proofs.variable.Goals as goal

pub returns-then-i-depth : goal.returns-then-i-depth
returns-then-i-depth c =
    let a = c.args in
    variable-found a.n a.node a.depth a.space.now c.if-i-depth.true

pub returns : goal.returns
returns c =
    let a = c.args in
    variable-unknown a.n a.node a.depth a.space.now c.if-i-depth.false
