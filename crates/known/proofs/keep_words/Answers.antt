-- `known::keep_words` meets its contract: the truths of the blocks passed are kept. Assumes nothing.
use Rattle.std.proofs.Common.{length}
use Rattle.rows.specs.Code.Leaves.{storing, storing_on}
use Rattle.known.proofs.keep_words.Goals as goal

pub loop-block-init : goal.loop-block-init
loop-block-init c = let a = c.args in storing a.space.now a.at a.truths.now (length a.truths.now)

pub loop-block-preserved : goal.loop-block-preserved
loop-block-preserved c = storing_on _ c.loop-block.invariant c.loop-block-test.true c.keep_word.ensures
