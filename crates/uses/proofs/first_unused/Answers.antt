-- `uses::first_unused` meets its contract: in the lower word, else in the higher one. Assumes nothing.
use native.Mathlib.Omega.{arith}
use lib.Count.{trailing_le}
use borrow.Author.Tests.{lt-ltb, le-ltb}
use Rattle.uses.specs.Walk.{half}
use Rattle.uses.proofs.first_unused.Goals as goal

pub returns-then-low-lt-HALF : goal.returns-then-low-lt-HALF
returns-then-low-lt-HALF c = simp (lt-ltb _ _ c.if-low-lt-HALF.true)

pub overflow_add-result : goal.overflow_add-result
overflow_add-result c = let t = trailing_le half c.args.u.high in record { fits = omega arith }

pub returns : goal.returns
returns c = simp (le-ltb _ _ c.if-low-lt-HALF.false)
