-- `operators::sum` meets its contract: two words, or not. Assumes nothing.
use Rattle.std.proofs.Common.{refl}
use Rattle.rules.specs.Evaluation.{binary_on}
use Rattle.operators.specs.Steps.Operators.{says-gave, add-wrong, add-to-wrong}
use Rattle.operators.proofs.sum.Goals as goal

pub returns-in-Word-Word : goal.returns-in-Word-Word
unfolding binary_on
returns-in-Word-Word c = rw (c.in-Word-Word.is-0, c.in-Word-Word.is-1) (says-gave λ cs. refl)

pub returns-in_default : goal.returns-in_default
returns-in_default c = rw c.in_default.is-0 (add-to-wrong _ _ c.in_default.not-Word-1)

pub returns-in_default-2 : goal.returns-in_default-2
returns-in_default-2 c = add-wrong _ _ c.in_default.not-Word-0
