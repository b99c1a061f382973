-- `table::node_at` meets its contract: the numbers from the node's place on are node i. Assumes nothing.
use mathlib.Core.Path.{sym}
use Rattle.script.specs.Flat.Laws.{node_at-nodes_in}
use Rattle.table.proofs.node_at.Goals as goal

pub returns : goal.returns
returns c =
    sym (node_at-nodes_in c.args.table.now c.args.i c.requires)
