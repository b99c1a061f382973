use mathlib.Core.Path.{◌≡◌}
use Prim.Native.Nat.{◌≤◌}
use lib.ListN.{length}
use Rattle.workspace.specs.Paths.{Starting}
use Rattle.checker.proofs.path.start.Given as goal

abbrev pub invariant-loop-i : goal.invariant-loop-i
invariant-loop-i l = (length l.space ≡ length l.initial.space) × (l.i ≤ l.depth) × Starting l.types l.space l.i
