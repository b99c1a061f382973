-- `types::leaf_type` meets its contract: the rule of each kind. Assumes nothing.
use Rattle.script.specs.Code.Forms.{form_of}
use Rattle.script.specs.Rows.{rows, row_of}
use Rattle.script.specs.Rows.Laws.{none_left, but}
use Rattle.workspace.specs.Rules.{leaf_type}
use Rattle.workspace.specs.Rules.Types.{leaf-type-other}
use Rattle.types.proofs.leaf_type.Goals as goal

pub returns-in-0 : goal.returns-in-0
unfolding leaf_type form_of row_of rows
returns-in-0 c = rw c.in-0.is

pub returns-in-3 : goal.returns-in-3
unfolding leaf_type form_of row_of rows
returns-in-3 c = rw c.in-3.is c.variable_type.ensures

pub returns-in_default : goal.returns-in_default
returns-in_default c =
    let d = c.in_default.in_default-own.rest in
    leaf-type-other c.args.n c.args.node _ (but d.0.1 (but d.1 none_left))
