use Rattle.script.specs.Tests.Loops.{Looked}
use Rattle.tests.specs.Lowest.{deep_by}
use Rattle.tests.proofs.test_depths.Given as goal

abbrev pub invariant-loop-i : goal.invariant-loop-i
invariant-loop-i l = Looked (deep_by l.table l.nodes l.depths) l.nodes l.i
