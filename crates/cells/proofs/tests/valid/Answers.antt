-- `cells::tests::valid` meets its contract: the test that belongs to the kind. Assumes nothing.
use mathlib.Core.Path.{◌∙◌}
use Rattle.cells.specs.Tests.{word_valid, truth_valid, location_valid, kind_invalid, valid_read}
use Rattle.cells.proofs.tests.valid.Goals as goal

pub returns-in-0 : goal.returns-in-0
returns-in-0 c =
    let a = c.args in
    word_valid a.used _ _ c.in-0.is ∙ valid_read a.used a.bytes.now a.i c.bits_at-bits.ensures

pub returns-in-1 : goal.returns-in-1
returns-in-1 c =
    let a = c.args in
    truth_valid a.used _ _ c.in-1.is ∙ valid_read a.used a.bytes.now a.i c.bits_at-bits.ensures

pub returns-in-2 : goal.returns-in-2
returns-in-2 c =
    let a = c.args in
    location_valid a.used _ _ c.in-2.is ∙ valid_read a.used a.bytes.now a.i c.bits_at-bits.ensures

pub returns-in_default : goal.returns-in_default
returns-in_default c =
    let a = c.args in
    let not = c.in_default.in_default-own.rest in
    kind_invalid a.used _ _ not.0.0.1 not.0.1 not.1
    ∙ valid_read a.used a.bytes.now a.i c.bits_at-bits.ensures
