-- `symbolic::one` meets its contract: the rule of each kind. Assumes nothing.
use Rattle.script.specs.Code.Forms.{form_of}
use Rattle.script.specs.Rows.{rows, row_of}
use Rattle.script.specs.Rows.Laws.{none_left, but}
use Rattle.workspace.specs.Rules.Operators.{one_other}
use Rattle.symbolic.proofs.one.Goals as goal

pub returns-in-6 : goal.returns-in-6
unfolding form_of row_of rows
returns-in-6 c = rw c.in-6.is c.negation.ensures

pub returns-in-10 : goal.returns-in-10
unfolding form_of row_of rows
returns-in-10 c = rw c.in-10.is c.make_cell.ensures

pub returns-in-11 : goal.returns-in-11
unfolding form_of row_of rows
returns-in-11 c = rw c.in-11.is c.read_cell.ensures

pub returns-in_default : goal.returns-in_default
returns-in_default c =
    let d = c.in_default.in_default-own.rest in
    one_other c.args.n c.args.v.0 c.args.v.1 c.args.kind (but d.0.0.1 (but d.0.1 (but d.1 none_left)))
