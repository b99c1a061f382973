-- `writer::put_nodes` meets its contract: the lines of the nodes from `i` on remain to be stored. Assumes nothing.
use mathlib.Core.Path.{◌≡◌}
use native.Mathlib.Omega.{arith}
use Rattle.script.specs.Flat.{nodes_in}
use Rattle.script.specs.Flat.Laws.{nodes_in-holds}
use Rattle.script.specs.Table.{node_at}
use Rattle.text.specs.Code.Output.Laws.{remains_all, remains_less, remains_room, remains_none}
use Rattle.text.specs.Code.Output.Lines.{nodes-next, nodes_end}
use Rattle.text.specs.Writing.{node_text}
use Rattle.writer.proofs.put_nodes.Goals as goal

pub loop-i-init : goal.loop-i-init
loop-i-init c = remains_all

pub node_at-n-requires : goal.node_at-n-requires
node_at-n-requires c = omega arith

pub put_node_line-at-requires : goal.put_node_line-at-requires
put_node_line-at-requires c =
    let ns = nodes_in c.args.table.now in
    let l = c.loop-i in
    let r = rw (nodes-next ns c.args.count l.i (omega arith) (nodes_in-holds _ _ c.requires.count_in_bounds)) at l.invariant in
    let m = remains_room (node_text (node_at ns l.i)) _ r in
    rw c.node_at-n.ensures record {
      kind_lt_kind_count = c.requires.by_index l.i (omega arith);
      n_bound = omega (arith, c.requires.table_bound);
    }

pub loop-i-preserved : goal.loop-i-preserved
loop-i-preserved c =
    let ns = nodes_in c.args.table.now in
    let l = c.loop-i in
    let r = rw (nodes-next ns c.args.count l.i (omega arith) (nodes_in-holds _ _ c.requires.count_in_bounds)) at l.invariant in
    remains_less r (rw c.node_at-n.ensures at c.put_node_line-at.ensures)

pub returns : goal.returns
returns c =
    let l = c.loop-i in
    let e : l.i ≡ c.args.count = omega arith in
    remains_none (rw (e, nodes_end (nodes_in c.args.table.now) c.args.count (nodes_in-holds _ _ c.requires.count_in_bounds)) at l.invariant)
