use Rattle.std.proofs.Common.{length}
use Rattle.rows.specs.Code.Leaves.{Numbering}
use Rattle.truths.proofs.number_atoms.Given as goal

abbrev pub invariant-loop-row : goal.invariant-loop-row
invariant-loop-row l = Numbering l.space l.order l.initial.numbers (length l.order) l.numbers l.seen l.row-index
