-- `operators::two` meets its contract: the row of each kind. Assumes nothing.
use Rattle.script.specs.Code.Forms.{form_of}
use Rattle.script.specs.Rows.{rows, row_of}
use Rattle.script.specs.Rows.Laws.{none_left, but}
use Rattle.operators.specs.Steps.{two_on}
use Rattle.operators.specs.Steps.Operators.{does-says, does-gave, two-other}
use Rattle.operators.proofs.two.Goals as goal

pub returns-in-4 : goal.returns-in-4
unfolding two_on form_of row_of rows
returns-in-4 c = rw c.in-4.is (does-says c.requires.cells c.sum.ensures)

pub returns-in-5 : goal.returns-in-5
unfolding two_on form_of row_of rows
returns-in-5 c = rw c.in-5.is (does-says c.requires.cells c.equality.ensures)

pub returns-in-7 : goal.returns-in-7
unfolding two_on form_of row_of rows
returns-in-7 c = rw c.in-7.is (does-says c.requires.cells c.conjunction.ensures)

pub returns-in-12 : goal.returns-in-12
unfolding two_on form_of row_of rows
returns-in-12 c =
    rw c.in-12.is c.write_cell.ensures

pub returns-in_default : goal.returns-in_default
returns-in_default c =
    let a = c.args in
    let d = c.in_default.in_default-own.rest in
    does-gave c.requires.cells _ (two-other a.n a.v a.w _ a.kind (but d.0.0.0.1 (but d.0.0.1 (but d.0.1 (but d.1 none_left)))))
