-- `types::one_type` meets its contract: the rule of each kind. Assumes nothing.
use Rattle.script.specs.Code.Forms.{form_of}
use Rattle.script.specs.Rows.{rows, row_of}
use Rattle.script.specs.Rows.Laws.{none_left, but}
use Rattle.workspace.specs.Rules.{one_type}
use Rattle.workspace.specs.Rules.Types.{not_right, not-wrong, ref-right, ref-wrong, get_right, get_wrong, one_type-other}
use Rattle.types.proofs.one_type.Goals as goal

pub returns-then-t-eq1 : goal.returns-then-t-eq1
unfolding one_type form_of row_of rows
returns-then-t-eq1 c = rw c.in-6.is (not_right c.args.n c.args.t c.if-t-eq1.true)

pub returns-then-t-lt-DEEPEST : goal.returns-then-t-lt-DEEPEST
unfolding one_type form_of row_of rows
returns-then-t-lt-DEEPEST c = rw c.in-10.is (ref-right c.args.n c.args.t c.if-t-lt-DEEPEST.true)

pub returns-then-t-ge2 : goal.returns-then-t-ge2
unfolding one_type form_of row_of rows
returns-then-t-ge2 c = rw c.in-11.is (get_right c.args.n c.args.t c.if-t-ge2.true)

pub returns-else-t-eq1 : goal.returns-else-t-eq1
unfolding one_type form_of row_of rows
returns-else-t-eq1 c = rw c.in-6.is (not-wrong c.args.n c.args.t c.if-t-eq1.false)

pub returns-else-t-lt-DEEPEST : goal.returns-else-t-lt-DEEPEST
unfolding one_type form_of row_of rows
returns-else-t-lt-DEEPEST c = rw c.in-10.is (ref-wrong c.args.n c.args.t c.if-t-lt-DEEPEST.false)

pub returns-else-t-ge2 : goal.returns-else-t-ge2
unfolding one_type form_of row_of rows
returns-else-t-ge2 c = rw c.in-11.is (get_wrong c.args.n c.args.t c.if-t-ge2.false)

pub returns-in_default : goal.returns-in_default
returns-in_default c =
    let d = c.in_default.in_default-own.rest in
    one_type-other c.args.n c.args.t c.args.kind (but d.0.0.1 (but d.0.1 (but d.1 none_left)))
