-- `write_log::consistent` meets its contract. The loop's invariant: the writes from i on are settled. Assumes nothing.
use mathlib.Core.Path.{sym, ◌∙◌}
use Prim.Native.Nat.{◌-◌}
use native.Mathlib.Omega.{arith}
use Rattle.workspace.specs.Log.Loops.{settling_wrong, settling_on, settling_end}
use Rattle.workspace.specs.State.{writes_in, start_in}
use Rattle.write_log.proofs.consistent.Goals as goal

pub returns-then-not-settled : goal.returns-then-not-settled
returns-then-not-settled c =
    let s = c.args.space.now in
    let l = c.loop-i in
    let r = c.settled in
    settling_wrong s (start_in s) (writes_in s) l.i (l.i - 1) (omega (arith, c.loop-i-test.true)) c.loop-i-test.true l.invariant (sym r.ensures ∙ c.if-not-settled.true)

pub loop-i-preserved : goal.loop-i-preserved
loop-i-preserved c =
    let s = c.args.space.now in
    let l = c.loop-i in
    let r = c.settled in
    settling_on s (start_in s) (writes_in s) l.i (l.i - 1) (omega (arith, c.loop-i-test.true)) c.loop-i-test.true l.invariant (sym r.ensures ∙ c.if-not-settled.false)

pub returns : goal.returns
returns c =
    let s = c.args.space.now in
    let l = c.loop-i in
    settling_end s (start_in s) (writes_in s) l.i c.loop-i-test.false l.invariant
