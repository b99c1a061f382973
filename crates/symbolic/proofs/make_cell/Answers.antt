-- `symbolic::make_cell` meets its contract: a fresh symbol, and a write of the value. Assumes nothing.
use Rattle.workspace.specs.Rules.Memory.{ref-wrong, ref-made}
use Rattle.symbolic.proofs.make_cell.Goals as goal

pub returns-then-t-ge-DEEPEST : goal.returns-then-t-ge-DEEPEST
returns-then-t-ge-DEEPEST c = ref-wrong c.args.n c.args.v.0 c.args.v.1 c.if-t-ge-DEEPEST.true

pub returns : goal.returns
returns c =
    ref-made c.args.n c.args.v.0 c.args.v.1 c.requires c.if-t-ge-DEEPEST.false c.fresh-place.ensures c.write.ensures
