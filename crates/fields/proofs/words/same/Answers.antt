-- `fields::words::same` meets its contract. The loop's invariant: from i on the two are the same exactly if they are whole. Assumes nothing.
use mathlib.Core.Path.{◌≡◌, refl, sym, ◌∙◌}
use native.Mathlib.Numerals.{add-one}
use native.Mathlib.Omega.{arith}
use lib.ListN.{length}
use Rattle.text.specs.Fields.Laws.{same_lengths, same-differ, same_next, same_end}
use Rattle.fields.proofs.words.same.Goals as goal

pub returns-then-a-b : goal.returns-then-a-b
returns-then-a-b c = let a = c.args in sym (same_lengths a.a.now a.b.now c.if-a-b.true)

pub loop-i-init : goal.loop-i-init
loop-i-init c = (omega arith, refl)

pub returns-then-a-i : goal.returns-then-a-i
returns-then-a-i c =
    let a = c.args in
    let l = c.loop-i in
    sym (sym l.invariant.1 ∙ same-differ a.a.now a.b.now l.i (omega arith) (omega arith) c.if-a-i.true)

pub loop-i-preserved : goal.loop-i-preserved
loop-i-preserved c =
    let a = c.args in
    let l = c.loop-i in
    (omega arith, rw (add-one l.i) (sym (same_next a.a.now a.b.now l.i (omega arith) (omega arith) c.if-a-i.false) ∙ l.invariant.1))

pub returns : goal.returns
returns c =
    let a = c.args in
    let l = c.loop-i in
    let e : l.i ≡ length a.a.now = omega arith in
    sym (sym (rw e at l.invariant.1) ∙ same_end a.a.now a.b.now (omega arith))
