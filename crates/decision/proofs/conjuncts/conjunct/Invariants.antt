use Rattle.decision.specs.Conjuncts.{Walking}
use Rattle.decision.proofs.conjuncts.conjunct.Given as goal

abbrev pub invariant-loop-decision : goal.invariant-loop-decision
invariant-loop-decision l = Walking l.space l.condition l.guard l.i

abbrev pub decreases-loop-decision : goal.decreases-loop-decision
decreases-loop-decision l = l.i
