-- `terms::push` meets its contract: its four stores are those of `pushed`. Assumes nothing.
use native.Mathlib.Omega.{arith}
use lib.ListN.{length-set}
use Rattle.terms.proofs.push.Goals as goal

pub bounds-space-at-2 : goal.bounds-space-at-2
bounds-space-at-2 c = simp length-set (omega arith)

pub bounds-space-at-3 : goal.bounds-space-at-3
bounds-space-at-3 c = simp length-set (omega arith)

pub bounds-space-288-2 : goal.bounds-space-288-2
bounds-space-288-2 c = simp length-set (omega arith)
