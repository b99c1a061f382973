-- Behind the last whole node there is none.
use Rattle.std.proofs.Common.{◌∙◌, sym, arith}
use Rattle.std.proofs.Math.ListN.{get_or-eq_default}
use Rattle.script.specs.Flat.{nodes_in}
use Rattle.script.specs.Flat.Laws.{length-nodes_in}
use Rattle.script.specs.Table.{unused}
use Rattle.copies.proofs.place_at.Goals as goal

pub returns : goal.returns
returns c =
    let l = length-nodes_in c.args.flat.now in
    c.unused.ensures ∙ sym (get_or-eq_default (nodes_in c.args.flat.now) unused {n = c.args.i} (omega arith))
