-- `fields::field_end` meets its contract. The loop's invariant: the field's end, counted from e on, is the end counted from the start. Assumes
-- nothing.
use mathlib.Core.Path.{◌≡◌, sym, ap, ◌∙◌}
use native.Mathlib.Omega.{arith}
use native.Mathlib.Numerals.{add-one}
use lib.ListN.{length}
use Rattle.text.specs.Code.Scan.Laws.{field-here, field_next, field-last}
use Rattle.fields.proofs.field_end.Goals as goal

pub returns-then-ends_field : goal.returns-then-ends_field
returns-then-ends_field c =
    let l = c.loop-e in
    let text = c.args.text.now in
    let h = ap length (field-here text l.e (omega arith) (sym c.ends_field.ensures ∙ c.if-ends_field.true)) in
    omega arith

pub loop-e-preserved : goal.loop-e-preserved
loop-e-preserved c =
    let l = c.loop-e in
    let text = c.args.text.now in
    let h = field_next text l.e (omega arith) (sym c.ends_field.ensures ∙ c.if-ends_field.false) in
    (omega arith, rw (add-one l.e) (omega arith))

pub returns : goal.returns
returns c =
    let l = c.loop-e in
    let text = c.args.text.now in
    let e : l.e ≡ length text = omega arith in
    let h = ap length (field-last text) in
    let i = l.invariant.1 in
    omega (arith, rw e at i)
