use Rattle.std.proofs.Common.{length}
use Rattle.rows.specs.Code.Leaves.{Numbered}
use Rattle.truths.proofs.all_numbered.Given as goal

abbrev pub invariant-loop-row : goal.invariant-loop-row
invariant-loop-row l = Numbered l.space l.order l.numbers (length l.order) l.row-index
