-- `truths::number_atoms` meets its contract: the atoms among the rows passed have their numbers. Assumes nothing.
use Rattle.std.proofs.Common.{length}
use Rattle.rows.specs.Code.Leaves.{numbering, numbering_on}
use Rattle.truths.proofs.number_atoms.Goals as goal

pub loop-row-init : goal.loop-row-init
loop-row-init c = let a = c.args in numbering a.space.now a.order.now a.numbers.now (length a.order.now)

pub loop-row-preserved : goal.loop-row-preserved
loop-row-preserved c = numbering_on _ _ c.loop-row.invariant c.loop-row-test.true c.number_row-seen.ensures.value c.number_row-seen.ensures.numbers_after
