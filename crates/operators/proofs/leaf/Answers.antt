-- `operators::leaf` meets its contract: the row of each kind. Assumes nothing.
use Rattle.std.proofs.Common.{◌^◌, ◌<◌, refl, mod-eq_of_lt, arith}
use Rattle.script.specs.Code.Forms.{form_of}
use Rattle.script.specs.Rows.{rows, row_of}
use Rattle.script.specs.Rows.Laws.{none_left, but}
use Rattle.operators.specs.Steps.{leaf_on}
use Rattle.operators.specs.Steps.Operators.{says-gave, leaf-other}
use Rattle.operators.proofs.leaf.Goals as goal

pub returns-in-0 : goal.returns-in-0
unfolding leaf_on form_of row_of rows
returns-in-0 c =
    let h : c.args.node.a < 2 ^ 32 = omega arith in
    rw c.in-0.is (says-gave λ cs. rw (mod-eq_of_lt h))

pub returns-in-1 : goal.returns-in-1
unfolding leaf_on form_of row_of rows
returns-in-1 c = rw c.in-1.is (says-gave λ cs. refl)

pub returns-in-3 : goal.returns-in-3
unfolding leaf_on form_of row_of rows
returns-in-3 c = rw c.in-3.is c.variable.ensures

pub returns-in_default : goal.returns-in_default
returns-in_default c =
    let a = c.args in
    let d = c.in_default.in_default-own.rest in
    says-gave λ cs. leaf-other a.n a.node _ cs (but d.0.0.1 (but d.0.1 (but d.1 none_left)))
