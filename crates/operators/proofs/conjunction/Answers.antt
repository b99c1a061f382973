-- `operators::conjunction` meets its contract: two truths, or not. Assumes nothing.
use Rattle.std.proofs.Common.{refl}
use Rattle.rules.specs.Evaluation.{binary_on}
use Rattle.operators.specs.Steps.Operators.{says-gave, and-wrong, and-with-wrong}
use Rattle.operators.proofs.conjunction.Goals as goal

pub returns-then-a : goal.returns-then-a
unfolding binary_on
returns-then-a c = rw (c.in-Truth-Truth.is-0, c.in-Truth-Truth.is-1, c.if-a.true) (says-gave λ cs. refl)

pub returns-else-a : goal.returns-else-a
unfolding binary_on
returns-else-a c = rw (c.in-Truth-Truth.is-0, c.in-Truth-Truth.is-1, c.if-a.false) (says-gave λ cs. refl)

pub returns-in_default : goal.returns-in_default
returns-in_default c = rw c.in_default.is-0 (and-with-wrong _ _ c.in_default.not-Truth-1)

pub returns-in_default-2 : goal.returns-in_default-2
returns-in_default-2 c = and-wrong _ _ c.in_default.not-Truth-0
