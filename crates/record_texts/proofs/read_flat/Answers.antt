-- The text is read into the first nodes, as many as are lent.
use Rattle.record_texts.specs.Code.Whole.{read_left}
use Rattle.record_texts.proofs.read_flat.Goals as goal

pub returns : goal.returns
returns c =
    let a = c.args in
    read_left a.text.now a.lent a.flat.now a.entries.now c.min-n.result c.requires c.min-n.ensures c.read.result c.read.new.table c.read.new.entries c.read.ensures
