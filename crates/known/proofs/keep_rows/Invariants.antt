use Rattle.std.proofs.Common.{length}
use Rattle.rows.specs.Code.Leaves.{Keeping}
use Rattle.known.proofs.keep_rows.Given as goal

abbrev pub invariant-loop-i : goal.invariant-loop-i
invariant-loop-i l = Keeping l.initial.space l.at l.marks (length l.marks) l.space l.count l.i
