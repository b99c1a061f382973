use Rattle.std.proofs.Common.{◌+◌, ◌*◌}
use Prim.Native.Nat.{◌-◌}
use Rattle.workspace.specs.Frames.{top_in}
use Rattle.checker.specs.Code.Going.Walking.{Walking, Turn}
use Rattle.checker.proofs.nodes.+arrive_block_type_block_up_check_node_check_several_operand_type_paths_walk.Given as goal

abbrev pub decreases-arrive : goal.decreases-arrive
decreases-arrive l = 4 * l.n + 3

abbrev pub decreases-block_type : goal.decreases-block_type
decreases-block_type l = 4 * l.a + 4

abbrev pub decreases-block_up : goal.decreases-block_up
decreases-block_up l = 4 * l.n + 2

abbrev pub decreases-check_node : goal.decreases-check_node
decreases-check_node l = 4 * l.n + 3

abbrev pub decreases-check_several : goal.decreases-check_several
decreases-check_several l = 4 * l.n + 2

abbrev pub decreases-operand_type : goal.decreases-operand_type
decreases-operand_type l = 4 * l.m + 4

abbrev pub invariant-paths-loop-followed : goal.invariant-paths-loop-followed
invariant-paths-loop-followed l = Turn l.table l.types l.depth l.limit l.n l.a l.space l.frames l._followed l.wanted l.next

abbrev pub decreases-paths : goal.decreases-paths
decreases-paths l = 4 * l.n + 1

abbrev pub invariant-walk-loop-u : goal.invariant-walk-loop-u
invariant-walk-loop-u l = Walking l.limit l.table l.n l.m l.initial.space l.initial.frames l.space l.frames l.next

abbrev pub decreases-walk-loop-u : goal.decreases-walk-loop-u
decreases-walk-loop-u l = 128 - top_in l.frames

abbrev pub decreases-walk : goal.decreases-walk
decreases-walk l = 4 * l.n
