-- `types::two_type` meets its contract: the rule of each kind. Assumes nothing.
use mathlib.Core.Path.{◌∙◌}
use Rattle.script.specs.Code.Forms.{form_of}
use Rattle.script.specs.Rows.{rows, row_of}
use Rattle.script.specs.Rows.Laws.{none_left, but}
use Rattle.workspace.specs.Rules.{two_type}
use Rattle.workspace.specs.Rules.Types.{add_both, and_both, eq_right, eq_wrong, two-type-other}
use Rattle.types.proofs.two_type.Goals as goal

pub returns-then-t-u : goal.returns-then-t-u
unfolding two_type form_of row_of rows
returns-then-t-u c = rw c.in-5.is (eq_right c.args.n c.args.t c.args.u c.if-t-u.true)

pub returns-in-4 : goal.returns-in-4
unfolding two_type form_of row_of rows
returns-in-4 c = rw c.in-4.is (c.both_type.ensures ∙ add_both c.args.n c.args.t c.args.u)

pub returns-else-t-u : goal.returns-else-t-u
unfolding two_type form_of row_of rows
returns-else-t-u c = rw c.in-5.is (eq_wrong c.args.n c.args.t c.args.u c.if-t-u.false)

pub returns-in-7 : goal.returns-in-7
unfolding two_type form_of row_of rows
returns-in-7 c = rw c.in-7.is (c.both_type-in-7.ensures ∙ and_both c.args.n c.args.t c.args.u)

pub returns-in-12 : goal.returns-in-12
unfolding two_type form_of row_of rows
returns-in-12 c = rw c.in-12.is c.set_type.ensures

pub returns-in_default : goal.returns-in_default
returns-in_default c =
    let d = c.in_default.in_default-own.rest in
    two-type-other c.args.n c.args.t c.args.u c.args.kind (but d.0.0.0.1 (but d.0.0.1 (but d.0.1 (but d.1 none_left))))
