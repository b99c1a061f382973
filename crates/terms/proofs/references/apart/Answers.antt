-- `terms::references::apart` meets its contract: by the sum of the two origins. Assumes nothing.
use Rattle.terms.specs.References.Laws.{apart-few, apart-many}
use Rattle.terms.proofs.references.apart.Goals as goal

pub returns-then-q-s-le-TWO_VARIABLES : goal.returns-then-q-s-le-TWO_VARIABLES
returns-then-q-s-le-TWO_VARIABLES c = let a = c.args in apart-few a.q a.s c.if-q-s-le-TWO_VARIABLES.true

pub returns : goal.returns
returns c = let a = c.args in apart-many a.q a.s c.if-q-s-le-TWO_VARIABLES.false
