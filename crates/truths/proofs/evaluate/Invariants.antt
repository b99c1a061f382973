use Rattle.std.proofs.Common.{length}
use Rattle.rows.specs.Code.Leaves.{Evaluating}
use Rattle.truths.proofs.evaluate.Given as goal

abbrev pub invariant-loop-row : goal.invariant-loop-row
invariant-loop-row l = Evaluating l.space l.order l.numbers l.block (length l.order) l.initial.words l.words l.row-index
