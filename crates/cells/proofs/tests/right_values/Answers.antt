-- `cells::tests::right_values` meets its contract: test by test, the values before the used cells. Assumes nothing.
use Rattle.cells.specs.Tests.{used-lent, other-count, broken_cell, bad_value, values-right}
use Rattle.cells.proofs.tests.right_values.Goals as goal

pub all_valid-requires-then-all_valid : goal.all_valid-requires-then-all_valid
all_valid-requires-then-all_valid c =
    used-lent c.args.cells.now c.args.used c.requires.used_value

pub returns-then-all_valid : goal.returns-then-all_valid
returns-then-all_valid c =
    let a = c.args in
    values-right a.entries a.values.now a.cells.now a.used
    c.if-values-entries.true
    c.if-cells-eq0.true
    c.all_valid.ensures
    c.if-all_valid.true
    c.all_valid-then-all_valid.ensures

pub returns-else-all_valid : goal.returns-else-all_valid
returns-else-all_valid c =
    let a = c.args in
    bad_value a.entries a.values.now a.cells.now a.used
    c.if-values-entries.true
    c.if-cells-eq0.true
    c.all_valid.ensures
    c.if-all_valid.false

pub returns-else-cells-eq0 : goal.returns-else-cells-eq0
returns-else-cells-eq0 c =
    let a = c.args in
    broken_cell a.entries a.values.now a.cells.now a.used c.if-cells-eq0.false c.if-values-entries.true

pub returns-else-values-entries : goal.returns-else-values-entries
returns-else-values-entries c =
    let a = c.args in
    other-count a.entries a.values.now a.cells.now a.used c.if-values-entries.false
