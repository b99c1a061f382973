-- `types::variable_type` meets its contract: the variables are the first types. Assumes nothing.
use mathlib.Core.Path.{sym, ap}
use native.Mathlib.Omega.{arith}
use Rattle.rules.specs.Checking.{known}
use Rattle.workspace.specs.State.{types_on}
use Rattle.workspace.specs.State.Laws.{types-at, types-length, none-at}
use Rattle.types.proofs.variable_type.Goals as goal

pub returns-then-i-depth : goal.returns-then-i-depth
returns-then-i-depth c =
    let a = c.args in
    sym (ap (known a.n) (types-at a.space.now a.depth a.k c.if-i-depth.true))

pub returns : goal.returns
returns c =
    let a = c.args in
    let l = types-length a.space.now a.depth in
    sym (ap (known a.n) (none-at (types_on a.space.now a.depth) a.k (omega (arith, c.if-i-depth.false, l))))
