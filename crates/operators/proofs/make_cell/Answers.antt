-- `operators::make_cell` meets its contract: the value is put behind the last cell. Assumes nothing.
use Rattle.operators.specs.Steps.Operators.{ref-next}
use Rattle.operators.proofs.make_cell.Goals as goal

pub returns : goal.returns
returns c =
    λ n. rw c.store.ensures (ref-next c.requires.cells n c.args.v)
