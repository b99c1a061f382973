-- `symbolic::read_cell` meets its contract: what the log has, no consistent log, and a fresh symbol. Assumes nothing.
use Rattle.workspace.specs.Rules.Memory.{get_wrong, get_value, get_stopped, get_fresh}
use Rattle.symbolic.proofs.read_cell.Goals as goal

pub returns-then-t-lt2 : goal.returns-then-t-lt2
returns-then-t-lt2 c = get_wrong c.args.n c.args.v.0 c.args.v.1 c.if-t-lt2.true

pub returns-then-not-consistent : goal.returns-then-not-consistent
returns-then-not-consistent c =
    get_stopped c.args.n c.args.v.0 c.args.v.1 c.if-t-lt2.false c.lookup.ensures c.in-None.is
    c.consistent.ensures (c.if-not-consistent.true)

pub returns-in-Some : goal.returns-in-Some
returns-in-Some c =
    get_value c.args.n c.args.v.0 c.args.v.1 c.if-t-lt2.false c.lookup.ensures c.in-Some.is

pub returns-else-not-consistent : goal.returns-else-not-consistent
returns-else-not-consistent c =
    get_fresh c.args.n c.args.v.0 c.args.v.1 c.if-t-lt2.false c.lookup.ensures c.in-None.is
    c.consistent.ensures (c.if-not-consistent.false) c.fresh.ensures
