use Rattle.words.specs.Sums.Laws.{Passing}
use Rattle.words.proofs.sums.pass.Given as goal

abbrev pub invariant-loop-i : goal.invariant-loop-i
invariant-loop-i l = Passing l.space l.top l.initial.weights l.initial.numbers l.i l.weights l.numbers
