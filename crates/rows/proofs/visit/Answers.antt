-- `rows::visit` meets its contract: a row with no mark, an atom, another row. Assumes nothing.
use Rattle.rows.specs.Code.Laws.{visited_unmarked, visited_atom, visited_other}
use Rattle.rows.proofs.visit.Goals as goal

pub returns-then-mark-eq0 : goal.returns-then-mark-eq0
returns-then-mark-eq0 c = let a = c.args in visited_unmarked a.i a.counts c.if-mark-eq0.true

pub returns-then-row-ge-FIRST_ATOM : goal.returns-then-row-ge-FIRST_ATOM
returns-then-row-ge-FIRST_ATOM c =
    let a = c.args in
    visited_atom a.i a.counts c.row_at-row.result _ _ _ c.row_at-row.ensures c.if-row-ge-FIRST_ATOM.true c.seen_after.ensures c.seen_after-then-row-ge-FIRST_ATOM.ensures c.seen_after-then-row-ge-FIRST_ATOM-2.ensures

pub returns : goal.returns
returns c =
    let a = c.args in
    visited_other a.i a.counts c.row_at-row.result _ c.row_at-row.ensures c.if-row-ge-FIRST_ATOM.false c.mark_row.ensures
