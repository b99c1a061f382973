use Rattle.workspace.specs.Log.Loops.{Settling}
use Rattle.workspace.specs.State.{writes_in, start_in}
use Rattle.write_log.proofs.consistent.Given as goal

abbrev pub invariant-loop-i : goal.invariant-loop-i
invariant-loop-i l = Settling l.space (start_in l.space) (writes_in l.space) l.i
