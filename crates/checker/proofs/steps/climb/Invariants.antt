use Rattle.workspace.specs.Frames.{frame_in}
use Rattle.checker.specs.Code.Going.AllFrames.{Climbing}
use Rattle.checker.proofs.steps.climb.Given as goal

abbrev pub invariant-loop-frames : goal.invariant-loop-frames
invariant-loop-frames l = Climbing l.table l.fn.v.0 l.fn.v.1 l.initial.space l.initial.frames l.space l.frames l.u l.s

abbrev pub decreases-loop-frames : goal.decreases-loop-frames
decreases-loop-frames l = frame_in l.frames
