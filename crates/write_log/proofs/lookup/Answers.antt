-- `write_log::lookup` meets its contract. The loop's invariant: the writes from i on are passed over. Assumes nothing.
use mathlib.Core.Path.{sym, ◌∙◌}
use Prim.Native.Nat.{◌-◌}
use native.Mathlib.Omega.{arith}
use Rattle.workspace.specs.Log.Loops.{looking-found, looking-none, looking_on, looking_end}
use Rattle.workspace.specs.State.{writes_in, start_in}
use Rattle.write_log.proofs.lookup.Goals as goal

pub returns-then-symbol_of : goal.returns-then-symbol_of
returns-then-symbol_of c =
    let a = c.args in
    let l = c.loop-i in
    let r = c.apart in
    looking-found a.space.now (start_in a.space.now) a.place (writes_in a.space.now) l.i (l.i - 1)
    (omega (arith, c.loop-i-test.true)) c.loop-i-test.true l.invariant
    (sym r.ensures ∙ c.if-not-apart.true) (sym c.symbol_of.ensures ∙ c.if-symbol_of.true ∙ c.symbol_of-then-not-apart.ensures)

pub returns-then-not-apart : goal.returns-then-not-apart
returns-then-not-apart c =
    let a = c.args in
    let l = c.loop-i in
    let r = c.apart in
    looking-none a.space.now (start_in a.space.now) a.place (writes_in a.space.now) l.i (l.i - 1)
    (omega (arith, c.loop-i-test.true)) c.loop-i-test.true l.invariant
    (sym r.ensures ∙ c.if-not-apart.true) (λ e. c.if-symbol_of.false (c.symbol_of.ensures ∙ e ∙ sym c.symbol_of-then-not-apart.ensures))

pub loop-i-preserved : goal.loop-i-preserved
loop-i-preserved c =
    let a = c.args in
    let l = c.loop-i in
    let r = c.apart in
    looking_on a.space.now (start_in a.space.now) a.place (writes_in a.space.now) l.i (l.i - 1)
    (omega (arith, c.loop-i-test.true)) c.loop-i-test.true l.invariant (sym r.ensures ∙ c.if-not-apart.false)

pub returns : goal.returns
returns c =
    let a = c.args in
    let l = c.loop-i in
    looking_end a.space.now (start_in a.space.now) a.place (writes_in a.space.now) l.i c.loop-i-test.false l.invariant
