-- `checker::forks::restore` meets its contract. The loop's invariant: the variables from place d on are restored, and frame f is next. Assumes nothing.
use Rattle.checker.specs.Code.Going.Rewinding.{restoring_start, restoring_less, restoring_on, restoring_end}
use Rattle.checker.proofs.forks.restore.Goals as goal

pub loop-space-init : goal.loop-space-init
loop-space-init c = restoring_start c.requires

pub loop-space-smaller : goal.loop-space-smaller
loop-space-smaller c = restoring_less c.requires c.loop-space.invariant c.loop-space-test.true c.restore_one-d.ensures

pub loop-space-preserved : goal.loop-space-preserved
loop-space-preserved c = restoring_on c.requires c.loop-space.invariant c.loop-space-test.true c.restore_one-d.ensures

pub returns : goal.returns
returns c = restoring_end c.requires c.loop-space.invariant c.loop-space-test.false
