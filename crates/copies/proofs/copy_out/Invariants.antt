-- Before turn i of the loop the flat slice holds the numbers of the first i records in front.
use Rattle.std.proofs.Common.{◌≡◌}
use Rattle.copies.specs.Copies.{copied}
use Rattle.copies.proofs.copy_out.Given as goal

abbrev pub invariant-loop-i : goal.invariant-loop-i
invariant-loop-i l = l.flat ≡ copied l.table l.i l.initial.flat
