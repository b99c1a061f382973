-- `operators::equality` meets its contract: two values of one kind, or of two. Assumes nothing.
use Rattle.std.proofs.Common.{arith}
use Rattle.operators.specs.Steps.Operators.{eq_same, eq_other}
use Rattle.operators.proofs.equality.Goals as goal

pub returns-then-kind : goal.returns-then-kind
returns-then-kind c =
    let a = c.args in
    rw (c.bits.ensures, c.bits-then-kind.ensures) (eq_same a.n a.used a.v a.w (omega arith))

pub returns : goal.returns
returns c =
    let a = c.args in
    eq_other a.n a.used a.v a.w λ e. c.if-kind.false (omega arith)
