-- `uses::step` meets its contract. Assumes nothing.
use mathlib.Core.Path.{refl}
use Rattle.uses.specs.Walk.{step}
use Rattle.uses.proofs.step.Goals as goal

pub returns : goal.returns
unfolding step
returns c = rw (c.wrong_before-wrong.ensures, c.with_uses-after.ensures) refl
