-- `truths::begin` meets its contract: the parts, one after the other. Assumes nothing.
use Rattle.std.proofs.Common.{length, arith}
use Rattle.rows.specs.Code.Leaves.{begun, lists-first}
use Rattle.truths.proofs.begin.Goals as goal

pub returns-clause-lists : goal.returns-clause-lists
returns-clause-lists c =
    let a = c.args in
    begun a.space.now a.order.now a.numbers.now (length a.order.now) a.n c.mark_changes.ensures (lists-first (omega arith) c.list_rows.ensures)
