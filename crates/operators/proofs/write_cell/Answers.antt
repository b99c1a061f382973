-- `operators::write_cell` meets its contract: no location, a used cell, and an unused one. Assumes nothing.
use Rattle.std.proofs.Common.{arith}
use Rattle.operators.specs.Steps.Operators.{set-used, set-unused, set-wrong}
use Rattle.operators.proofs.write_cell.Goals as goal

pub returns-in_default : goal.returns-in_default
returns-in_default c = set-wrong c.requires.cells _ _ c.in_default.not-Location

pub returns-then-l-used : goal.returns-then-l-used
returns-then-l-used c =
    rw (c.in-Location.is, c.store.ensures) (set-used c.requires.cells c.args.n c.in-Location.l c.args.w (omega arith))

pub returns : goal.returns
returns c =
    rw c.in-Location.is (set-unused c.requires.cells c.args.n c.in-Location.l c.args.w (omega arith))
