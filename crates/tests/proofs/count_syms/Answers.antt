-- `tests::count_syms` meets its contract. The loop's invariant: with those from i on, the `sym` counted are all. Assumes nothing.
use native.Mathlib.Omega.{arith}
use Rattle.tests.specs.Few.{syms_turn, syms_end}
use Rattle.tests.proofs.count_syms.Goals as goal

pub loop-i-init : goal.loop-i-init
loop-i-init c = (omega arith, omega arith, omega arith)

pub with_sym-count-requires : goal.with_sym-count-requires
with_sym-count-requires c = omega (arith, c.loop-i.invariant.0, c.loop-i.invariant.1, c.requires.most)

pub loop-i-preserved : goal.loop-i-preserved
loop-i-preserved c =
    let a = c.args in
    let l = c.loop-i in
    let t = syms_turn a.table.now a.nodes c.requires l.i c.loop-i-test.true c.node_at.ensures c.with_sym-count.ensures l.invariant.2 in
    (omega arith, omega (arith, l.invariant.1, t.0), t.1)

pub returns : goal.returns
returns c = syms_end c.args.table.now c.args.nodes c.requires c.loop-i.i (omega (arith, c.loop-i-test.false)) c.loop-i.invariant.2
