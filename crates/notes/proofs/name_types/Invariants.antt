use Rattle.script.specs.Code.Forms.{tree_in}
use Rattle.workspace.specs.Notes.Making.{Upto}
use Rattle.notes.proofs.name_types.Given as goal

abbrev pub invariant-loop-k : goal.invariant-loop-k
invariant-loop-k l = Upto (tree_in l.table l.a) l.depth l.at l.initial.space l.k l.count l.space
