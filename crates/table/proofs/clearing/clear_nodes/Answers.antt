-- `table::clearing::clear_nodes` meets its contract. Assumes nothing.
use native.Mathlib.Omega.{arith}
use native.Mathlib.Numerals.{add-one}
use Rattle.script.specs.Code.Clearing.Laws.{clear_start, clear_room, clear_next, clear_end}
use Rattle.script.specs.Flat.Laws.{length-nodes_in}
use Rattle.table.proofs.clearing.clear_nodes.Goals as goal

pub loop-i-init : goal.loop-i-init
loop-i-init c = let a = c.args in clear_start a.from a.table.now c.requires

pub put_node-requires : goal.put_node-requires
put_node-requires c =
    let n = length-nodes_in c.args.table.now in
    clear_room c.loop-i.invariant (omega arith)

pub loop-i-preserved : goal.loop-i-preserved
loop-i-preserved c =
    let n = length-nodes_in c.args.table.now in
    rw (add-one c.loop-i.i, c.put_node.ensures, c.unused-blank.ensures)
    (clear_next c.loop-i.invariant (omega arith))

pub shape_of-table : goal.shape_of-table
shape_of-table c = c.loop-i.invariant.table-length

pub returns : goal.returns
returns c =
    let n = length-nodes_in c.args.table.now in
    clear_end c.loop-i.invariant (omega arith)
