-- `checker::path::start_variable` meets its contract. Assumes nothing.
use Rattle.workspace.specs.Paths.Beginning.{variable-started}
use Rattle.checker.proofs.path.start_variable.Goals as goal

pub returns : goal.returns
returns c = let e = c.requires in variable-started e.i_lt_symbol_limit e.starting c.fresh-place.ensures
