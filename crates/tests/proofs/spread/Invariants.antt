use Prim.Native.Nat.{◌≤◌}
use lib.ListN.{take}
use Rattle.script.specs.Table.{operands}
use Rattle.script.specs.Code.TableTests.{Spread}
use Rattle.tests.proofs.spread.Given as goal

abbrev pub invariant-loop-k : goal.invariant-loop-k
invariant-loop-k l = (l.k ≤ l.m) × Spread (take l.k (operands l.n)) l.v l.initial.depths l.depths
