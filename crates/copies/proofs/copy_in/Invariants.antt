-- Before turn i of the loop the first i places of the table are filled.
use Rattle.std.proofs.Common.{◌≡◌}
use Rattle.copies.specs.Copies.{placed}
use Rattle.copies.proofs.copy_in.Given as goal

abbrev pub invariant-loop-at : goal.invariant-loop-at
invariant-loop-at l = l.table ≡ placed l.flat l.initial.table l.at
