use Rattle.workspace.specs.Log.Loops.{Looking}
use Rattle.workspace.specs.State.{writes_in, start_in}
use Rattle.write_log.proofs.lookup.Given as goal

abbrev pub invariant-loop-i : goal.invariant-loop-i
invariant-loop-i l = Looking l.space (start_in l.space) l.place (writes_in l.space) l.i
