use Rattle.std.proofs.Common.{length}
use Rattle.rows.specs.Code.Leaves.{Listing}
use Rattle.truths.proofs.list_rows.Given as goal

abbrev pub invariant-loop-i : goal.invariant-loop-i
invariant-loop-i l = Listing l.marks (length l.marks) l.least l.initial.order l.order l.count l.i
