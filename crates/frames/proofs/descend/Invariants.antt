use mathlib.Core.List.{List}
use mathlib.Core.Path.{◌≡◌}
use Prim.Native.Nat.{ℕ}
use lib.ListN.{length}
use Rattle.script.specs.Code.Forms.{node_in}
use Rattle.workspace.specs.Frames.{Descends, Descendable}
use Rattle.frames.proofs.descend.Given as goal

abbrev pub invariant-loop-node : goal.invariant-loop-node
invariant-loop-node l = (l.node ≡ node_in l.table l.n)
    × Descendable l.table l.frames l.n
    × (length l.frames ≡ length l.initial.frames)
    × ((r : ℕ) (left : List ℕ) → Descends l.table l.frames l.n r left → Descends l.table l.initial.frames l.m r left)

abbrev pub decreases-loop-node : goal.decreases-loop-node
decreases-loop-node l = l.n
