-- `symbolic::write_cell` meets its contract: a write through a reference. Assumes nothing.
use Rattle.workspace.specs.Rules.Memory.{set-wrong, set-made}
use Rattle.symbolic.proofs.write_cell.Goals as goal

pub returns-then-v-lt2 : goal.returns-then-v-lt2
returns-then-v-lt2 c = set-wrong c.args.n c.args.v.0 c.args.v.1 c.args.w.0 c.args.w.1 c.if-v-lt2.true

pub returns : goal.returns
returns c =
    set-made c.args.n c.args.v.0 c.args.v.1 c.args.w.0 c.args.w.1 c.if-v-lt2.false c.requires
    c.write.ensures
