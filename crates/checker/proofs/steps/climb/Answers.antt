-- `checker::steps::climb` meets its contract: a value goes up frame by frame, and a frame's value goes to an earlier one. Assumes nothing.
use Rattle.checker.specs.Code.Going.AllFrames.{climbing_end, climbing_on}
use Rattle.checker.proofs.steps.climb.Goals as goal

pub loop-frames-preserved : goal.loop-frames-preserved
loop-frames-preserved c = climbing_on c.loop-frames.invariant c.back.ensures (rw c.in-Value.is at c.in_ok-w.was) c.back.auto.space c.back.auto.frames

pub returns : goal.returns
returns c = climbing_end c.loop-frames.invariant c.loop-frames-test.false
