use Rattle.script.specs.Tests.Loops.{Looked}
use Rattle.terms.specs.Terms.{count_in}
use Rattle.terms.specs.Atoms.{atom_at}
use Rattle.terms.proofs.atoms.find_atom.Given as goal

abbrev pub invariant-loop-i : goal.invariant-loop-i
invariant-loop-i l = Looked (atom_at l.space l.op l.a l.b) (count_in l.space) l.i
