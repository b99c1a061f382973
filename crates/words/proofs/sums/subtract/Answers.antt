-- `words::sums::subtract` meets its contract: a pass that starts with the weights of p and q. Assumes nothing.
use Rattle.words.specs.Sums.Laws.{started, start-room}
use Rattle.words.proofs.sums.subtract.Goals as goal

pub pass-requires : goal.pass-requires
pass-requires c =
    let a = c.args in
    start-room c.requires (started a.p a.q c.rows_to.result _ _ c.rows_to.ensures c.add_at.ensures c.add_at-2.ensures)
