-- `operators::negation` meets its contract: a truth, or not. Assumes nothing.
use Rattle.std.proofs.Common.{refl}
use Rattle.rules.specs.Evaluation.{unary_on}
use Rattle.operators.specs.Steps.Operators.{says-gave, not-wrong}
use Rattle.operators.proofs.negation.Goals as goal

pub returns-in-Truth : goal.returns-in-Truth
unfolding unary_on
returns-in-Truth c = rw c.in-Truth.is (says-gave λ cs. refl)

pub returns-in_default : goal.returns-in_default
returns-in_default c = not-wrong _ c.in_default.not-Truth
