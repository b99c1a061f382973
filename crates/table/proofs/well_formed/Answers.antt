-- `table::well_formed` meets its contract: a node is right where its three operands are. Assumes nothing.
use mathlib.Core.Path.{sym, ◌∙◌}
use Rattle.script.specs.Rows.{row_of}
use Rattle.script.specs.Code.TableTests.Laws.{first-wrong, second-wrong, third_says}
use Rattle.table.proofs.well_formed.Goals as goal

pub returns-then-right_field-2 : goal.returns-then-right_field-2
returns-then-right_field-2 c =
    let a = c.args in
    c.right_field-then-right_field-2.ensures
    ∙ third_says a.i a.n (row_of a.n.kind) (sym c.right_field.ensures ∙ c.if-right_field.true) (sym c.right_field-then-right_field.ensures ∙ c.if-right_field-2.true)

pub returns-else-right_field-2 : goal.returns-else-right_field-2
returns-else-right_field-2 c =
    let a = c.args in
    second-wrong a.i a.n (row_of a.n.kind) (sym c.right_field.ensures ∙ c.if-right_field.true) (sym c.right_field-then-right_field.ensures ∙ c.if-right_field-2.false)

pub returns-else-right_field : goal.returns-else-right_field
returns-else-right_field c =
    let a = c.args in
    first-wrong a.i a.n (row_of a.n.kind) (sym c.right_field.ensures ∙ c.if-right_field.false)
