use Rattle.checker.specs.Code.Going.Rewinding.{Restoring}
use Rattle.checker.proofs.forks.restore.Given as goal

abbrev pub invariant-loop-space : goal.invariant-loop-space
invariant-loop-space l = Restoring l.initial.space l.frames l.f l.d l.space

abbrev pub decreases-loop-space : goal.decreases-loop-space
decreases-loop-space l = l.f
