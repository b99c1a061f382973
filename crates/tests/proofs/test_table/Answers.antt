-- `tests::test_table` meets its contract: 32 and 2, then the tests of what is used. Assumes nothing.
use mathlib.Core.Path.{◌∙◌, sym, ap}
use Rattle.std.specs.Prelude.{Err}
use Rattle.script.specs.Answers.Named.{handed_on, lacking, there_is}
use Rattle.script.specs.declared.Refusal.TheVariants.{TooMany}
use Rattle.tests.specs.Whole.{table-few-nodes, table-few-entries, table_too_many, table-within, table-lent}
use Rattle.tests.proofs.test_table.Goals as goal

pub returns-then-lent-lt-NODES : goal.returns-then-lent-lt-NODES
returns-then-lent-lt-NODES c = let a = c.args in table-few-nodes a.lent.now.table.now a.lent.now.nodes a.lent.now.entries.now a.lent.now.entry_count c.if-lent-lt-NODES.true

pub returns-then-lent-lt-ENTRIES : goal.returns-then-lent-lt-ENTRIES
returns-then-lent-lt-ENTRIES c = let a = c.args in table-few-entries a.lent.now.table.now a.lent.now.nodes a.lent.now.entries.now a.lent.now.entry_count c.if-lent-lt-NODES.false c.if-lent-lt-ENTRIES.true

pub test_used-requires : goal.test_used-requires
test_used-requires c =
    let a = c.args in
    let s = c.of in
    let f = there_is s.result TooMany (sym c.ok_or.ensures.value ∙ c.in_ok-ok_or.was) in
    let it = table-lent a.lent.now.table.now a.lent.now.nodes a.lent.now.entries.now a.lent.now.entry_count c.if-lent-lt-NODES.false c.if-lent-lt-ENTRIES.false s.result s.ensures _ f in
    record { lent = it.0; entry_count_in_bounds = it.1 }

pub returns-in_err-ok_or : goal.returns-in_err-ok_or
returns-in_err-ok_or c =
    let a = c.args in
    let s = c.of in
    let n = lacking s.result TooMany (sym c.ok_or.ensures.value ∙ c.in_err-ok_or.was) in
    handed_on c.from_residual.result c.from_residual.ensures.1
    ∙ ap Err n.1
    ∙ table_too_many a.lent.now.table.now a.lent.now.nodes a.lent.now.entries.now a.lent.now.entry_count c.if-lent-lt-NODES.false c.if-lent-lt-ENTRIES.false s.result s.ensures n.0

pub returns : goal.returns
returns c =
    let a = c.args in
    let s = c.of in
    let f = there_is s.result TooMany (sym c.ok_or.ensures.value ∙ c.in_ok-ok_or.was) in
    c.test_used.ensures
    ∙ table-within a.lent.now.table.now a.lent.now.nodes a.lent.now.entries.now a.lent.now.entry_count c.if-lent-lt-NODES.false c.if-lent-lt-ENTRIES.false s.result s.ensures _ f
