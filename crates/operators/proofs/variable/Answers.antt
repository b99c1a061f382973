-- `operators::variable` meets its contract: a variable that is bound, and one that is not. Assumes nothing.
use Rattle.std.proofs.Common.{arith}
use Rattle.operators.specs.Steps.Operators.{var-bound, var-unbound}
use Rattle.operators.proofs.variable.Goals as goal

pub returns-then-i-depth : goal.returns-then-i-depth
returns-then-i-depth c =
    let a = c.args in
    rw c.load.ensures (var-bound a.environment.now a.depth a.k a.n a.used (omega arith))

pub returns : goal.returns
returns c =
    let a = c.args in
    var-unbound a.environment.now a.depth a.k a.n a.used (omega arith)
