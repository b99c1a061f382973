-- `known::list_guard` meets its contract: the rows that the guard reaches are marked and listed. Assumes nothing.
use native.Mathlib.Omega.{arith}
use Rattle.rows.specs.Code.Leaves.{guard-room, guard-listed, lists-first}
use Rattle.known.proofs.list_guard.Goals as goal

pub mark_all-requires : goal.mark_all-requires
mark_all-requires c =
    let a = c.args in
    let p = c.requires in
    guard-room a.space.now a.guard p.rows_end_in_bounds.0 p.rows_end_in_bounds.1

pub returns : goal.returns
returns c =
    let a = c.args in
    guard-listed a.space.now a.guard a.order.now c.mark_all.ensures.marks_after (lists-first (omega arith) c.list_rows.ensures)
