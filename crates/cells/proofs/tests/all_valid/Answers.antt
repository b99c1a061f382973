-- `cells::tests::all_valid` meets its contract. The loop's invariant: the values passed are valid, and the others decide. Assumes nothing.
use native.Mathlib.Omega.{arith}
use Rattle.cells.specs.Tests.{passed_start, passed-next, passed_bad, passed-all}
use Rattle.cells.proofs.tests.all_valid.Goals as goal

pub loop-i-init : goal.loop-i-init
loop-i-init c = passed_start

pub valid-requires : goal.valid-requires
valid-requires c = omega arith

pub returns-then-not-valid : goal.returns-then-not-valid
returns-then-not-valid c =
    let v = c.valid in
    passed_bad v.ensures c.if-not-valid.true c.loop-i-test.true c.loop-i.invariant

pub loop-i-preserved : goal.loop-i-preserved
loop-i-preserved c =
    let v = c.valid in
    passed-next v.ensures c.if-not-valid.false c.loop-i-test.true c.loop-i.invariant

pub returns : goal.returns
returns c = passed-all c.loop-i-test.false c.loop-i.invariant
