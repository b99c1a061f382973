-- `tests::note_depths` meets its contract. The loop's invariant: the nodes from j on have told their operands. Assumes nothing.
use Prim.Native.Nat.{◌-◌}
use native.Mathlib.Omega.{arith}
use lib.ListN.{length}
use Rattle.tests.specs.Counts.{formed-within, depths_start, depths_fit, depths_turn, depths_end}
use Rattle.tests.proofs.note_depths.Goals as goal

pub loop-j-init : goal.loop-j-init
loop-j-init c =
    let a = c.args in
    (omega arith, depths_start a.table.now a.nodes c.requires.formed_nodes a.depths.now c.requires.zeros)

pub bounds-depths-j : goal.bounds-depths-j
bounds-depths-j c =
    let s = c.loop-j.invariant.1.same in
    let r = c.requires.zeros.room in
    omega arith

pub with_sym-inside-requires : goal.with_sym-inside-requires
with_sym-inside-requires c =
    let a = c.args in
    let l = c.loop-j in
    let r = c.requires.zeros.room in
    depths_fit a.table.now a.nodes c.requires.formed_nodes (length a.depths.now) l.j (l.j - 1) l.depths l.invariant.1 (omega arith)

pub spread-requires : goal.spread-requires
spread-requires c =
    let a = c.args in
    let l = c.loop-j in
    let s = l.invariant.1.same in
    let r = c.requires.zeros.room in
    formed-within a.table.now a.nodes c.requires.formed_nodes (l.j - 1) c.node_at-n.result l.depths (omega arith) (omega arith) c.node_at-n.ensures

pub loop-j-preserved : goal.loop-j-preserved
loop-j-preserved c =
    let a = c.args in
    let l = c.loop-j in (
      omega arith,
      depths_turn a.table.now a.nodes c.requires.formed_nodes (length a.depths.now) l.j c.with_sym-inside.result c.node_at-n.result
          l.depths c.spread.new.depths c.loop-j-test.true l.invariant.0 c.requires.zeros.room c.node_at-n.ensures
          l.invariant.1 c.with_sym-inside.ensures c.spread.ensures,
    )

pub returns : goal.returns
returns c =
    let a = c.args in
    let l = c.loop-j in
    depths_end a.table.now a.nodes c.requires.formed_nodes (length a.depths.now) l.j l.depths c.requires.zeros.room c.loop-j-test.false l.invariant.1
