-- `tests::count_uses` meets its contract. The loop's invariant: the uses by the first j nodes are counted. Assumes nothing.
use native.Mathlib.Omega.{arith}
use lib.ListN.{length, take}
use Rattle.script.specs.Flat.{nodes_in}
use Rattle.tests.specs.Counts.{used-none, used-small, formed-within, uses-turn, uses_end}
use Rattle.tests.proofs.count_uses.Goals as goal

pub loop-j-init : goal.loop-j-init
loop-j-init c =
    let a = c.args in
    (omega arith, used-none (take a.nodes (nodes_in a.table.now)) a.nodes a.counts.now c.requires.zeros)

pub count_operands-requires : goal.count_operands-requires
count_operands-requires c =
    let a = c.args in
    let l = c.loop-j in
    let s = l.invariant.1.same in
    let r = c.requires.zeros.room in
    let f = c.requires.formed_nodes.most in record {
      within = formed-within a.table.now a.nodes c.requires.formed_nodes l.j c.node_at.result l.counts c.loop-j-test.true (omega arith) c.node_at.ensures;
      small = used-small (take a.nodes (nodes_in a.table.now)) l.j (length a.counts.now) l.counts (omega arith) l.invariant.1;
    }

pub loop-j-preserved : goal.loop-j-preserved
loop-j-preserved c =
    let a = c.args in
    let l = c.loop-j in (
      omega arith,
      uses-turn a.table.now a.nodes c.requires.formed_nodes (length a.counts.now) l.j c.node_at.result l.counts
          c.count_operands.new.counts c.loop-j-test.true c.node_at.ensures l.invariant.1
          c.count_operands.ensures,
    )

pub returns : goal.returns
returns c =
    let a = c.args in
    let l = c.loop-j in
    uses_end a.table.now a.nodes c.requires.formed_nodes (length a.counts.now) l.j l.counts c.requires.zeros.room c.loop-j-test.false l.invariant.0 l.invariant.1
