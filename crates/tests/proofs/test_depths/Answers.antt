-- `tests::test_depths` meets its contract. The loop's invariant: no `sym` passed is too deep. Assumes nothing.
use mathlib.Core.Path.{sym, ◌∙◌}
use Rattle.script.specs.Tests.Loops.{look, look_on}
use Rattle.tests.specs.Lowest.{deep_by, deep_is, depths_refused, depths_passed}
use Rattle.tests.proofs.test_depths.Goals as goal

pub loop-i-init : goal.loop-i-init
loop-i-init c = let a = c.args in look (deep_by a.table.now a.nodes a.depths.now) a.nodes

pub returns-then-too_deep : goal.returns-then-too_deep
returns-then-too_deep c =
    let a = c.args in
    let deep = deep_is a.table.now a.nodes a.depths.now c.loop-i.i c.loop-i-test.true c.node_at.result c.too_deep.result c.node_at.ensures c.too_deep.ensures in
    depths_refused a.table.now a.nodes a.depths.now c.loop-i.i c.requires.lent c.loop-i.invariant c.loop-i-test.true (sym deep ∙ c.if-too_deep.true)

pub loop-i-preserved : goal.loop-i-preserved
loop-i-preserved c =
    let a = c.args in
    let deep = deep_is a.table.now a.nodes a.depths.now c.loop-i.i c.loop-i-test.true c.node_at.result c.too_deep.result c.node_at.ensures c.too_deep.ensures in
    look_on (deep_by a.table.now a.nodes a.depths.now) a.nodes c.loop-i.i c.loop-i.invariant c.loop-i-test.true (sym deep ∙ c.if-too_deep.false)

pub returns : goal.returns
returns c =
    let a = c.args in
    depths_passed a.table.now a.nodes a.depths.now c.loop-i.i c.requires.lent c.loop-i.invariant c.loop-i-test.false
