use Rattle.workspace.specs.Notes.Recalling.{Recalling}
use Rattle.notes.proofs.recall.Given as goal

abbrev pub invariant-loop-i : goal.invariant-loop-i
invariant-loop-i l = Recalling l.space l.depth l.a l.i
