-- `table::put_node` meets its contract: its stores are those of `sets`. Assumes nothing.
use native.Mathlib.Omega.{arith}
use lib.ListN.{length-set}
use Rattle.script.specs.Flat.Laws.{stores_sets}
use Rattle.table.proofs.put_node.Goals as goal

pub bounds-table-at-2 : goal.bounds-table-at-2
bounds-table-at-2 c = simp length-set (omega arith)

pub bounds-table-at-3 : goal.bounds-table-at-3
bounds-table-at-3 c = simp length-set (omega arith)

pub bounds-table-at-4 : goal.bounds-table-at-4
bounds-table-at-4 c = simp length-set (omega arith)

pub returns : goal.returns
returns c = stores_sets c.args.table.now c.args.i c.args.n
