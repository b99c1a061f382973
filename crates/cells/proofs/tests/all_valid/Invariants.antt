use Rattle.cells.specs.Tests.{Passed}
use Rattle.cells.proofs.tests.all_valid.Given as goal

abbrev pub invariant-loop-i : goal.invariant-loop-i
invariant-loop-i l = Passed l.used l.bytes l.count l.i
