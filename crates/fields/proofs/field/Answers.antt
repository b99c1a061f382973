-- `fields::field` meets its contract: the part of the text up to where the field ends. Assumes nothing.
use native.Mathlib.Omega.{arith}
use lib.ListN.{length-drop, drop}
use Rattle.text.specs.Code.Scan.Laws.{field-most, field-part}
use Rattle.fields.proofs.field.Goals as goal

pub slice_bounds-result-end : goal.slice_bounds-result-end
slice_bounds-result-end c =
    let a = c.args in
    let h = field-most (drop a.from a.text.now) in
    omega (arith, length-drop a.from a.text.now)

pub returns : goal.returns
returns c =
    let a = c.args in
    field-part a.text.now a.from c.field_end-e.result c.field_end-e.ensures
