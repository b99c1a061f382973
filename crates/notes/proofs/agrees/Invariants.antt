use Rattle.workspace.specs.Notes.Recalling.{Agreeing}
use Rattle.notes.proofs.agrees.Given as goal

abbrev pub invariant-loop-i : goal.invariant-loop-i
invariant-loop-i l = Agreeing l.space l.at l.i
