use Rattle.workspace.specs.Log.Loops.{Mending}
use Rattle.write_log.proofs.mended.Given as goal

abbrev pub invariant-loop-j : goal.invariant-loop-j
invariant-loop-j l = Mending l.space l.symbol l.i l.count l.j
