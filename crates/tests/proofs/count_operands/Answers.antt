-- `tests::count_operands` meets its contract. The loop's invariant: the first k operands are counted. Assumes nothing.
use native.Mathlib.Omega.{arith}
use Rattle.script.specs.Table.{operands}
use Rattle.tests.specs.Counts.{operand-place, place-within, all-operands, counted_none, counted-more, counted-fits}
use Rattle.tests.proofs.count_operands.Goals as goal

pub loop-k-init : goal.loop-k-init
loop-k-init c = (omega arith, counted_none (operands c.args.n) c.args.counts.now)

pub bounds-counts-o : goal.bounds-counts-o
bounds-counts-o c =
    let a = c.args in
    let m = c.node_operands-m in
    let p = operand-place c.args.n m.result c.loop-k.k c.operand_at-o.result m.ensures c.loop-k-test.true c.operand_at-o.ensures in
    place-within a.n c.loop-k.k c.operand_at-o.result a.counts.now c.loop-k.counts p c.requires.within c.loop-k.invariant.1.same

pub overflow_add-counts : goal.overflow_add-counts
overflow_add-counts c =
    let a = c.args in
    let m = c.node_operands-m in
    let p = operand-place c.args.n m.result c.loop-k.k c.operand_at-o.result m.ensures c.loop-k-test.true c.operand_at-o.ensures in
    let f = counted-fits (operands a.n) a.counts.now c.loop-k.counts c.loop-k.k c.operand_at-o.result c.requires.within c.requires.small p.below p.few p.is c.loop-k.invariant.1 in
    omega arith

pub bounds-counts-o-in-loop-k : goal.bounds-counts-o-in-loop-k
bounds-counts-o-in-loop-k c =
    let a = c.args in
    let m = c.node_operands-m in
    let p = operand-place c.args.n m.result c.loop-k.k c.operand_at-o.result m.ensures c.loop-k-test.true c.operand_at-o.ensures in
    place-within a.n c.loop-k.k c.operand_at-o.result a.counts.now c.loop-k.counts p c.requires.within c.loop-k.invariant.1.same

pub loop-k-preserved : goal.loop-k-preserved
loop-k-preserved c =
    let a = c.args in
    let m = c.node_operands-m in
    let p = operand-place c.args.n m.result c.loop-k.k c.operand_at-o.result m.ensures c.loop-k-test.true c.operand_at-o.ensures in
    (omega arith, counted-more (operands a.n) a.counts.now c.loop-k.counts c.loop-k.k c.operand_at-o.result c.requires.within p.below p.is c.loop-k.invariant.1)

pub returns : goal.returns
returns c =
    let m = c.node_operands-m in
    rw (all-operands c.args.n m.result c.loop-k.k m.ensures c.loop-k-test.false) at c.loop-k.invariant.1
