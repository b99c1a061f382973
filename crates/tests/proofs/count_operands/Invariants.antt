use Prim.Native.Nat.{◌≤◌}
use lib.ListN.{take}
use Rattle.script.specs.Table.{operands}
use Rattle.script.specs.Code.TableTests.{Counted}
use Rattle.tests.proofs.count_operands.Given as goal

abbrev pub invariant-loop-k : goal.invariant-loop-k
invariant-loop-k l = (l.k ≤ l.m) × Counted (take l.k (operands l.n)) l.initial.counts l.counts
