use Rattle.std.proofs.Common.{◌∙◌, ap, arith, add-one, set}
use Rattle.script.specs.Flat.{nodes_in}
use Rattle.script.specs.Table.{node_at}
use Rattle.copies.specs.Copies.Laws.{placed-next}
use Rattle.copies.proofs.copy_in.Goals as goal

pub loop-at-preserved : goal.loop-at-preserved
loop-at-preserved c =
    rw (add-one c.loop-at.at)
    (c.put_record.ensures
    ∙ ap (set c.loop-at.table c.loop-at.at) c.place_at.ensures
    ∙ ap (λ ns. set ns c.loop-at.at (node_at (nodes_in c.args.flat.now) c.loop-at.at)) c.loop-at.invariant
    ∙ placed-next c.args.flat.now c.args.table.now c.loop-at.at (omega arith))
