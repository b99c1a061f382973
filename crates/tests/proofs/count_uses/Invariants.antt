use Prim.Native.Nat.{◌≤◌}
use lib.ListN.{length, take}
use Rattle.script.specs.Flat.{nodes_in}
use Rattle.tests.specs.Counts.{UsedBy}
use Rattle.tests.proofs.count_uses.Given as goal

abbrev pub invariant-loop-j : goal.invariant-loop-j
invariant-loop-j l = (l.j ≤ l.nodes) × UsedBy (take l.nodes (nodes_in l.table)) l.j (length l.initial.counts) l.counts
