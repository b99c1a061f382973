-- `uses::wrong_before` meets its contract: the lowest wrong node, if it is before the last. Assumes nothing.
use mathlib.Core.Path.{refl}
use borrow.Author.Tests.{lt-ltb, le-ltb}
use Rattle.uses.proofs.wrong_before.Goals as goal

pub returns-then-lowest-last : goal.returns-then-lowest-last
returns-then-lowest-last c = let l = c.lowest_wrong-lowest in rw (← l.ensures, lt-ltb _ _ c.if-lowest-last.true) refl

pub returns : goal.returns
returns c = let l = c.lowest_wrong-lowest in rw (← l.ensures, le-ltb _ _ c.if-lowest-last.false) refl
