-- `truths::mark_changes` meets its contract: of the rows passed it is said. Assumes nothing.
use Rattle.std.proofs.Common.{length}
use Rattle.rows.specs.Code.Leaves.{changing, changing_on}
use Rattle.truths.proofs.mark_changes.Goals as goal

pub loop-row-init : goal.loop-row-init
loop-row-init c = let a = c.args in changing a.space.now a.order.now a.numbers.now (length a.order.now) a.changes.now

pub loop-row-preserved : goal.loop-row-preserved
loop-row-preserved c = changing_on _ c.loop-row.invariant c.loop-row-test.true c.change_row.ensures
