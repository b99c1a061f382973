use mathlib.Core.Path.{◌≡◌}
use Prim.Native.Nat.{◌+◌, ◌≤◌}
use lib.ListN.{take, drop}
use Rattle.script.specs.Flat.{nodes_in}
use Rattle.script.specs.Code.TableTests.{syms_in}
use Rattle.tests.proofs.count_syms.Given as goal

abbrev pub invariant-loop-i : goal.invariant-loop-i
invariant-loop-i l = (l.i ≤ l.nodes) × (l.count ≤ l.i) × (l.count + syms_in (drop l.i (take l.nodes (nodes_in l.table))) ≡ syms_in (take l.nodes (nodes_in l.table)))
