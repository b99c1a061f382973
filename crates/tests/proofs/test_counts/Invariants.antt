use lib.ListN.{length}
use Prim.Native.Nat.{pred}
use Rattle.script.specs.Tests.Loops.{Looked}
use Rattle.tests.specs.Lowest.{not_once}
use Rattle.tests.proofs.test_counts.Given as goal

abbrev pub invariant-loop-i : goal.invariant-loop-i
invariant-loop-i l = Looked (not_once l.counts) (pred (length l.counts)) l.i
