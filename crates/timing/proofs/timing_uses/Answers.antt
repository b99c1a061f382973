-- `timing::timing_uses` meets its contract: what the walk finds, as a number. Assumes nothing.
use Prim.Native.Nat.{◌≤◌}
use native.Mathlib.Omega.{arith}
use lib.ListN.{length}
use Rattle.script.specs.Flat.{nodes_in}
use Rattle.script.specs.Flat.Laws.{length-nodes_in}
use Rattle.timing.specs.Answers.Laws.{too_many, too_few, node-named, none_named}
use Rattle.timing.proofs.timing_uses.Goals as goal

pub returns-then-nodes-gt-NODES : goal.returns-then-nodes-gt-NODES
returns-then-nodes-gt-NODES c = too_many (nodes_in c.args.table.now) c.args.nodes c.if-nodes-gt-NODES.true

pub returns-then-table-nodes : goal.returns-then-table-nodes
returns-then-table-nodes c = let l = length-nodes_in c.args.table.now in too_few (nodes_in c.args.table.now) c.args.nodes c.if-nodes-gt-NODES.false (omega arith)

pub returns-in-Some : goal.returns-in-Some
returns-in-Some c =
    let a = c.args in
    let l = length-nodes_in a.table.now in
    let m : a.nodes ≤ length (nodes_in a.table.now) = omega (arith, c.if-table-nodes.false) in
    node-named (nodes_in a.table.now) a.nodes c.if-nodes-gt-NODES.false m c.walk-after.result c.walk-after.ensures _ c.in-Some.is

pub returns-in-None : goal.returns-in-None
returns-in-None c =
    let a = c.args in
    let l = length-nodes_in a.table.now in
    let m : a.nodes ≤ length (nodes_in a.table.now) = omega (arith, c.if-table-nodes.false) in
    none_named (nodes_in a.table.now) a.nodes c.if-nodes-gt-NODES.false m c.walk-after.result c.walk-after.ensures c.in-None.is
