-- `operators::read_cell` meets its contract: no location, a used cell, and an unused one. Assumes nothing.
use Rattle.std.proofs.Common.{arith}
use Rattle.operators.specs.Steps.Operators.{get_used, get_unused, get-wrong}
use Rattle.operators.proofs.read_cell.Goals as goal

pub returns-in_default : goal.returns-in_default
returns-in_default c = get-wrong c.requires _ c.in_default.not-Location

pub returns-then-l-used : goal.returns-then-l-used
returns-then-l-used c =
    rw (c.in-Location.is, c.load.ensures) (get_used c.requires c.args.n c.in-Location.l (omega arith))

pub returns : goal.returns
returns c =
    rw c.in-Location.is (get_unused c.requires c.args.n c.in-Location.l (omega arith))
