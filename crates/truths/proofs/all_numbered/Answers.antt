-- `truths::all_numbered` meets its contract: the rows passed are numbered. Assumes nothing.
use Rattle.std.proofs.Common.{length}
use Rattle.rows.specs.Code.Leaves.{numbered, numbered_on, numbered-not}
use Rattle.truths.proofs.all_numbered.Goals as goal

pub loop-row-init : goal.loop-row-init
loop-row-init c = numbered

pub returns-then-not-is_numbered : goal.returns-then-not-is_numbered
returns-then-not-is_numbered c =
    let a = c.args in
    numbered-not a.space.now a.order.now a.numbers.now (length a.order.now) c.loop-row.row-index c.is_numbered.result c.loop-row-test.true c.is_numbered.ensures
    c.if-not-is_numbered.true

pub loop-row-preserved : goal.loop-row-preserved
loop-row-preserved c =
    numbered_on c.is_numbered.result c.loop-row.invariant c.loop-row-test.true c.is_numbered.ensures c.if-not-is_numbered.false
