-- `known::keep_rows` meets its contract: of the rows passed the atoms with a mark are kept. Assumes nothing.
use Rattle.std.proofs.Common.{length}
use Rattle.rows.specs.Code.Leaves.{keeping, keeping_on}
use Rattle.known.proofs.keep_rows.Goals as goal

pub loop-i-init : goal.loop-i-init
loop-i-init c = let a = c.args in keeping a.space.now a.at a.marks.now (length a.marks.now)

pub loop-i-preserved : goal.loop-i-preserved
loop-i-preserved c = keeping_on _ _ c.requires c.loop-i.invariant c.loop-i-test.true c.keep_row-count.ensures.value c.keep_row-count.ensures.space_after
