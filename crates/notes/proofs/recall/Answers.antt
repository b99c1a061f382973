-- `notes::recall` meets its contract. The loop's invariant: none of the first i notes is one of node a. In the answers a is
-- the arguments, l the loop, t that i is below the count of the notes. Assumes nothing.
use mathlib.Core.Path.{sym, ◌∙◌}
use Rattle.workspace.specs.Notes.Recalling.{recalling-found, recalling_on, recalling_end}
use Rattle.notes.proofs.recall.Goals as goal

pub returns-then-is_of : goal.returns-then-is_of
returns-then-is_of c =
    let a = c.args in
    let l = c.loop-i in
    recalling-found a.space.now a.depth a.a l.i l.invariant c.loop-i-test.true
    (sym c.is_of.ensures ∙ c.if-is_of.true)

pub loop-i-preserved : goal.loop-i-preserved
loop-i-preserved c =
    let a = c.args in
    let l = c.loop-i in
    recalling_on a.space.now a.depth a.a l.i l.invariant c.loop-i-test.true
    (sym c.is_of.ensures ∙ c.if-is_of.false)

pub returns : goal.returns
returns c =
    let a = c.args in
    let l = c.loop-i in
    recalling_end a.space.now a.depth a.a l.i l.invariant c.loop-i-test.false
