use Rattle.rows.specs.Code.Leaves.{Recalling}
use Rattle.known.proofs.number_known.Given as goal

abbrev pub invariant-loop-j : goal.invariant-loop-j
invariant-loop-j l = Recalling l.space l.at l.initial.numbers l.count l.numbers l.j
