-- `notes::agrees` meets its contract. The loop's invariant: the first i variables have the types that are named. In the answers a is the
-- arguments, l the loop, b that the variable read is one of the environment. Assumes nothing.
use Rattle.workspace.specs.Notes.Recalling.{agreeing_wrong, agreeing_on, agreeing_end}
use Rattle.notes.proofs.agrees.Goals as goal

pub returns-then-space-k : goal.returns-then-space-k
returns-then-space-k c =
    let a = c.args in
    let l = c.loop-i in
    agreeing_wrong a.space.now a.at l.i l.invariant c.loop-i-test.true c.if-space-k.true

pub loop-i-preserved : goal.loop-i-preserved
loop-i-preserved c =
    let a = c.args in
    let l = c.loop-i in
    agreeing_on a.space.now a.at l.i l.invariant c.loop-i-test.true c.if-space-k.false

pub returns : goal.returns
returns c =
    let a = c.args in
    let l = c.loop-i in
    agreeing_end a.space.now a.at l.i l.invariant c.loop-i-test.false
