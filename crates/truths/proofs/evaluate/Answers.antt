-- `truths::evaluate` meets its contract: the rows passed have their words. Assumes nothing.
use Rattle.std.proofs.Common.{length}
use Rattle.rows.specs.Code.Leaves.{evaluating, evaluating_on}
use Rattle.truths.proofs.evaluate.Goals as goal

pub loop-row-init : goal.loop-row-init
loop-row-init c = let a = c.args in evaluating a.space.now a.order.now a.numbers.now a.block (length a.order.now) a.words.now

pub loop-row-preserved : goal.loop-row-preserved
loop-row-preserved c = evaluating_on _ c.loop-row.invariant c.loop-row-test.true c.evaluate_row.ensures
