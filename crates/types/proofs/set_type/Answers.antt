-- `types::set_type` meets its contract: the reference's type, then the value's. Assumes nothing.
use Rattle.workspace.specs.Rules.Types.{set-right, set-wrong, set_no_reference}
use Rattle.types.proofs.set_type.Goals as goal
use Rattle.types.proofs.set_type.Goals.{else-t-ge2-via-then-t-ge2+else-t-u, else-t-ge2-via-else-t-ge2}

pub returns-then-t-u : goal.returns-then-t-u
returns-then-t-u c = set-right c.args.n c.args.t c.args.u c.if-t-ge2.true c.if-t-u.true

pub returns : goal.returns
returns c = elim c.else-t-ge2.branch [
  | else-t-ge2-via-then-t-ge2+else-t-u w ↦ set-wrong c.args.n c.args.t c.args.u w.if-t-u.false
  | else-t-ge2-via-else-t-ge2 w ↦ set_no_reference c.args.n c.args.t c.args.u w.if-t-ge2.false
]
