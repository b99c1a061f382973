-- `checker::entry_types` meets its contract. The loop's invariant: the types of the first i entries are placed. Assumes nothing.
use native.Mathlib.Omega.{arith}
use Rattle.checker.specs.Code.Whole.{placed-none, placed-more}
use Rattle.checker.proofs.entry_types.Goals as goal

pub loop-i-init : goal.loop-i-init
loop-i-init c = placed-none c.args.entries.now c.args.space.now

pub loop-i-preserved : goal.loop-i-preserved
loop-i-preserved c =
    let l = c.loop-i in
    placed-more c.args.entries.now c.args.space.now l.i l.space (omega arith) (omega (arith, c.requires, l.invariant.same)) l.invariant
