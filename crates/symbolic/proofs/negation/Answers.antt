-- `symbolic::negation` meets its contract: a row for the negation of a truth. Assumes nothing.
use Rattle.workspace.specs.Rules.Operators.{negation-wrong, negation-made}
use Rattle.symbolic.proofs.negation.Goals as goal

pub returns-then-t-ne1 : goal.returns-then-t-ne1
returns-then-t-ne1 c = negation-wrong c.args.n c.args.v.0 c.args.v.1 c.if-t-ne1.true

pub returns : goal.returns
returns c = negation-made c.args.n c.args.v.0 c.args.v.1 c.if-t-ne1.false c.requires c.push.ensures.value c.push.ensures.space_after
