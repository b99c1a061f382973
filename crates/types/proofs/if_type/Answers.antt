-- `types::if_type` meets its contract: the condition's type, then the branches'. Assumes nothing.
use Rattle.workspace.specs.Rules.Types.{if_right, if_differ, if_wrong}
use Rattle.types.proofs.if_type.Goals as goal
use Rattle.types.proofs.if_type.Goals.{else-t-eq1-via-then-t-eq1+else-u-v, else-t-eq1-via-else-t-eq1}

pub returns-then-u-v : goal.returns-then-u-v
returns-then-u-v c = if_right c.args.n c.args.t c.args.u c.args.v c.if-t-eq1.true c.if-u-v.true

pub returns : goal.returns
returns c = elim c.else-t-eq1.branch [
  | else-t-eq1-via-then-t-eq1+else-u-v w ↦ if_differ c.args.n c.args.t c.args.u c.args.v w.if-t-eq1.true w.if-u-v.false
  | else-t-eq1-via-else-t-eq1 w ↦ if_wrong c.args.n c.args.t c.args.u c.args.v w.if-t-eq1.false
]
