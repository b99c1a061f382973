-- `cells::tests::right_cells` meets its contract: the used cells first, then the lent ones. Assumes nothing.
use mathlib.Core.Path.{◌∙◌}
use borrow.Author.Tests.{lt-leb}
use Rattle.cells.specs.Tests.{few-used, many-used}
use Rattle.cells.proofs.tests.right_cells.Goals as goal

pub returns-then-used-le-USED : goal.returns-then-used-le-USED
returns-then-used-le-USED c = let a = c.args in few-used a.cells.now a.used c.if-used-le-USED.true

pub returns-else-used-le-USED : goal.returns-else-used-le-USED
returns-else-used-le-USED c = let a = c.args in lt-leb a.used 64 c.if-used-le-USED.false ∙ many-used a.cells.now a.used c.if-used-le-USED.false
