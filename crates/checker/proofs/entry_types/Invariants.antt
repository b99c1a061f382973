use Rattle.checker.specs.Code.Whole.{Placed}
use Rattle.checker.proofs.entry_types.Given as goal

abbrev pub invariant-loop-i : goal.invariant-loop-i
invariant-loop-i l = Placed l.entries l.initial.space l.i l.space
