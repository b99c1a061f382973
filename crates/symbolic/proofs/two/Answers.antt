-- `symbolic::two` meets its contract: the rule of each kind. Assumes nothing.
use Rattle.script.specs.Code.Forms.{form_of}
use Rattle.script.specs.Rows.{rows, row_of}
use Rattle.script.specs.Rows.Laws.{none_left, but}
use Rattle.workspace.specs.Rules.Operators.{two-other, both_sum, both_conjunction}
use Rattle.symbolic.proofs.two.Goals as goal

pub returns-in-4 : goal.returns-in-4
unfolding form_of row_of rows
returns-in-4 c = let a = c.args in rw c.in-4.is (both_sum a.n a.v.0 a.v.1 a.w.0 a.w.1 c.requires.room c.both.ensures)

pub returns-in-5 : goal.returns-in-5
unfolding form_of row_of rows
returns-in-5 c = rw c.in-5.is c.equality.ensures

pub returns-in-7 : goal.returns-in-7
unfolding form_of row_of rows
returns-in-7 c = let a = c.args in rw c.in-7.is (both_conjunction a.n a.v.0 a.v.1 a.w.0 a.w.1 c.requires.room c.both-in-7.ensures)

pub returns-in-12 : goal.returns-in-12
unfolding form_of row_of rows
returns-in-12 c = rw c.in-12.is c.write_cell.ensures

pub returns-in_default : goal.returns-in_default
returns-in_default c =
    let d = c.in_default.in_default-own.rest in
    two-other c.args.n c.args.v.0 c.args.v.1 c.args.w.0 c.args.w.1 c.args.kind (but d.0.0.0.1 (but d.0.0.1 (but d.0.1 (but d.1 none_left))))
