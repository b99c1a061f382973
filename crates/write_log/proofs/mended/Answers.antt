-- `write_log::mended` meets its contract. The loop's invariant: no write passed mends. Assumes nothing.
use mathlib.Core.Path.{sym, ◌∙◌}
use Rattle.workspace.specs.Log.Loops.{mending_found, mending_on, mending_end}
use Rattle.write_log.proofs.mended.Goals as goal

pub returns-then-mends : goal.returns-then-mends
returns-then-mends c =
    let a = c.args in
    let l = c.loop-j in
    mending_found a.space.now a.symbol a.i _ l.j l.invariant c.loop-j-test.true (sym c.mends.ensures ∙ c.if-mends.true)

pub loop-j-preserved : goal.loop-j-preserved
loop-j-preserved c =
    let a = c.args in
    let l = c.loop-j in
    mending_on a.space.now a.symbol a.i _ l.j l.invariant c.loop-j-test.true (sym c.mends.ensures ∙ c.if-mends.false)

pub returns : goal.returns
returns c =
    let a = c.args in
    let l = c.loop-j in
    mending_end a.space.now a.symbol a.i _ l.j l.invariant c.loop-j-test.false
