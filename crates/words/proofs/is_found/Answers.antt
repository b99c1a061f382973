-- `words::is_found` meets its contract. Assumes nothing.
use Rattle.std.proofs.Common.{sym, ◌∙◌}
use Rattle.words.specs.Words.Laws.{two-below, found-difference, found-other}
use Rattle.words.proofs.is_found.Goals as goal

pub is_wanted-requires : goal.is_wanted-requires
is_wanted-requires c = two-below c.row_at-row.result c.requires (sym c.joins.ensures ∙ c.if-joins.true)

pub returns-then-joins : goal.returns-then-joins
returns-then-joins c =
    let a = c.args in
    let r = c.row_at-row in
    found-difference a.space.now a.wanted.now a.i r.result r.ensures c.is_wanted.result
    (sym c.joins.ensures ∙ c.if-joins.true) c.is_wanted.ensures

pub returns-else-joins : goal.returns-else-joins
returns-else-joins c =
    let a = c.args in
    let r = c.row_at-row in
    c.if-joins.false ∙ found-other a.space.now a.wanted.now a.i r.result r.ensures (sym c.joins.ensures ∙ c.if-joins.false)
