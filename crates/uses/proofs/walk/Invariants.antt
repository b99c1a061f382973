use mathlib.Core.Path.{◌≡◌}
use Prim.Native.Nat.{◌≤◌}
use lib.ListN.{take}
use Rattle.script.specs.Flat.{nodes_in}
use Rattle.uses.specs.Walk.{walk}
use Rattle.uses.proofs.walk.Given as goal

abbrev pub invariant-loop-i : goal.invariant-loop-i
invariant-loop-i l = (l.i ≤ l.nodes) × (l.s ≡ walk (take l.i (nodes_in l.table)))
