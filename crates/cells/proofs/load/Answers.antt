-- `cells::load` meets its contract: the value by its kind, with the bits behind it. Assumes nothing.
use mathlib.Core.Path.{◌∙◌}
use Rattle.cells.specs.Values.{word-kind, truth-kind, location_kind, value_read}
use Rattle.cells.proofs.load.Goals as goal

pub returns-in-0 : goal.returns-in-0
returns-in-0 c =
    let a = c.args in
    word-kind _ _ c.in-0.is ∙ value_read a.bytes.now a.i c.bits_at-bits.ensures

pub returns-in-1 : goal.returns-in-1
returns-in-1 c =
    let a = c.args in
    truth-kind _ _ c.in-1.is ∙ value_read a.bytes.now a.i c.bits_at-bits.ensures

pub returns-in_default : goal.returns-in_default
returns-in_default c =
    let a = c.args in
    location_kind _ _ c.in_default.in_default-own.rest.0.1 c.in_default.in_default-own.rest.1
    ∙ value_read a.bytes.now a.i c.bits_at-bits.ensures
