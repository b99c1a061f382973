use Rattle.std.proofs.Common.{length}
use Rattle.rows.specs.Code.Leaves.{Changing}
use Rattle.truths.proofs.mark_changes.Given as goal

abbrev pub invariant-loop-row : goal.invariant-loop-row
invariant-loop-row l = Changing l.space l.order l.numbers (length l.order) l.initial.changes l.changes l.row-index
