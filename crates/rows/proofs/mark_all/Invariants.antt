use Rattle.rows.specs.Code.Loops.{Tallying}
use Rattle.rows.proofs.mark_all.Given as goal

abbrev pub invariant-loop-j : goal.invariant-loop-j
invariant-loop-j l = Tallying l.space l.n l.initial.marks l.marks l.j l.counts
