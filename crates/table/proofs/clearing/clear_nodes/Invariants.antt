use Rattle.script.specs.Code.Clearing.Laws.{Clearing}
use Rattle.table.proofs.clearing.clear_nodes.Given as goal

abbrev pub invariant-loop-i : goal.invariant-loop-i
invariant-loop-i l = Clearing l.from l.initial.table l.table l.i
