-- `uses::walk` meets its contract. The loop's invariant: the state is that after the first i nodes. Assumes nothing.
use mathlib.Core.Path.{◌∙◌}
use native.Mathlib.Omega.{arith}
use Rattle.uses.proofs.Laws.{walk_none, walk-fits, walk_turn, walk_end}
use Rattle.uses.proofs.walk.Goals as goal

pub loop-i-init : goal.loop-i-init
loop-i-init c = (omega arith, c.start-s.ensures ∙ walk_none)

pub step-s-requires : goal.step-s-requires
step-s-requires c =
    let a = c.args in
    let l = c.loop-i in
    walk-fits a.table.now a.nodes c.requires l.i l.s c.loop-i-test.true l.invariant.1

pub loop-i-preserved : goal.loop-i-preserved
loop-i-preserved c =
    let a = c.args in
    let l = c.loop-i in
    (omega arith, walk_turn a.table.now a.nodes c.requires l.i l.s c.loop-i-test.true l.invariant.1 c.node_at.result c.step-s.result c.node_at.ensures c.step-s.ensures)

pub returns : goal.returns
returns c = walk_end c.args.table.now c.args.nodes c.requires c.loop-i.i c.loop-i.s c.loop-i.invariant.0 c.loop-i-test.false c.loop-i.invariant.1
