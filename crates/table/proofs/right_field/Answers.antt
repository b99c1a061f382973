-- `table::right_field` meets its contract: each `return` is one case of the kind's row. Assumes nothing.
use Rattle.script.specs.Code.TableTests.Laws.{right-number, right-earlier, right_zero, right_no_kind}
use Rattle.script.specs.Rows.{rows}
use Rattle.table.proofs.right_field.Goals as goal

pub returns-in-Number : goal.returns-in-Number
returns-in-Number c =
    let a = c.args in
    let t = c.kind_takes in
    right-number a.kind a.k a.o a.i t.result a.count _ t.ensures c.requires c.if-k-count.true c.in-Number.is

pub returns-in-Nodes : goal.returns-in-Nodes
returns-in-Nodes c =
    let a = c.args in
    let t = c.kind_takes in
    right-earlier a.kind a.k a.o a.i t.result a.count t.ensures c.requires c.if-k-count.true c.in-Nodes.is

pub returns-then-kind-lt-KINDS : goal.returns-then-kind-lt-KINDS
unfolding rows
returns-then-kind-lt-KINDS c =
    let a = c.args in
    right_zero a.kind a.k a.o a.i a.count c.if-kind-lt-KINDS.true c.requires c.if-k-count.false

pub returns : goal.returns
unfolding rows
returns c = let a = c.args in right_no_kind a.kind a.k a.o a.i c.if-kind-lt-KINDS.false
