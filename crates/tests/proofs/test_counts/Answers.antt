-- `tests::test_counts` meets its contract. The loop's invariant: each count passed is 1. Assumes nothing.
use lib.ListN.{length}
use Prim.Native.Nat.{pred}
use native.Mathlib.Omega.{arith}
use Rattle.script.specs.Tests.Loops.{look}
use Rattle.tests.specs.Lowest.{not_once, count-wrong, count-right, counts-passed}
use Rattle.tests.proofs.test_counts.Goals as goal

pub loop-i-init : goal.loop-i-init
loop-i-init c = look (not_once c.args.counts.now) (pred (length c.args.counts.now))

pub returns-then-counts-i-ne1 : goal.returns-then-counts-i-ne1
returns-then-counts-i-ne1 c = count-wrong c.args.counts.now (length c.args.counts.now) c.loop-i.i c.loop-i.invariant (omega arith) c.if-counts-i-ne1.true

pub loop-i-preserved : goal.loop-i-preserved
loop-i-preserved c = count-right c.args.counts.now (length c.args.counts.now) c.loop-i.i c.loop-i.invariant (omega arith) c.if-counts-i-ne1.false

pub returns : goal.returns
returns c = counts-passed c.args.counts.now (length c.args.counts.now) c.loop-i.i c.loop-i.invariant (omega arith)
