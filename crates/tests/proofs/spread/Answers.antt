-- `tests::spread` meets its contract. The loop's invariant: v stands at the first k operands. Assumes nothing.
use native.Mathlib.Omega.{arith}
use Rattle.script.specs.Table.{operands}
use Rattle.tests.specs.Counts.{operand-place, place-within, all-operands, spread_none, spread-more}
use Rattle.tests.proofs.spread.Goals as goal

pub loop-k-init : goal.loop-k-init
loop-k-init c = let a = c.args in (omega arith, spread_none (operands a.n) a.depths.now a.v)

pub bounds-depths-o : goal.bounds-depths-o
bounds-depths-o c =
    let a = c.args in
    let m = c.node_operands-m in
    let p = operand-place c.args.n m.result c.loop-k.k c.operand_at-o.result m.ensures c.loop-k-test.true c.operand_at-o.ensures in
    place-within a.n c.loop-k.k c.operand_at-o.result a.depths.now c.loop-k.depths p c.requires c.loop-k.invariant.1.same

pub loop-k-preserved : goal.loop-k-preserved
loop-k-preserved c =
    let a = c.args in
    let m = c.node_operands-m in
    let p = operand-place c.args.n m.result c.loop-k.k c.operand_at-o.result m.ensures c.loop-k-test.true c.operand_at-o.ensures in
    (omega arith, spread-more (operands a.n) a.depths.now a.v c.loop-k.depths c.loop-k.k c.operand_at-o.result c.requires p.below p.is c.loop-k.invariant.1)

pub returns : goal.returns
returns c =
    let m = c.node_operands-m in
    rw (all-operands c.args.n m.result c.loop-k.k m.ensures c.loop-k-test.false) at c.loop-k.invariant.1
