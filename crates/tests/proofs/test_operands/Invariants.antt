use Rattle.script.specs.Tests.Loops.{Looked}
use Rattle.tests.specs.Lowest.{malformed}
use Rattle.tests.proofs.test_operands.Given as goal

abbrev pub invariant-loop-i : goal.invariant-loop-i
invariant-loop-i l = Looked (malformed l.table l.nodes) l.nodes l.i
