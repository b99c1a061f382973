-- `checker::path::start` meets its contract. The loop's invariant: the first i variables are symbols. Assumes nothing.
use mathlib.Core.Path.{refl}
use native.Mathlib.Omega.{arith}
use Rattle.workspace.specs.Paths.Beginning.{first-started, starting_end}
use Rattle.checker.proofs.path.start.Goals as goal

pub loop-i-init : goal.loop-i-init
loop-i-init c =
    let p = c.push in
    (refl, omega arith, first-started c.requires.blank c.args.types.now p.new.space p.ensures.space_after)

pub returns : goal.returns
returns c =
    let l = c.loop-i in
    starting_end c.args.depth c.requires.depth_le_symbol_limit l.invariant.1 c.loop-i-test.false l.invariant.2
