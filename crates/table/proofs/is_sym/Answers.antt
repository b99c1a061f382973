-- `table::is_sym` meets its contract: the kind is that of `sym`. Assumes nothing.
use Rattle.script.specs.Table.Uses.{sym-kind}
use Rattle.table.proofs.is_sym.Goals as goal

pub returns : goal.returns
returns c = sym-kind c.args.n.kind
