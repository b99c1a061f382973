-- `host::check_text` meets its contract: the text is read, and what was read is checked. Assumes nothing.
use mathlib.Core.Path.{refl, ◌∙◌}
use Rattle.script.specs.Answers.Named.{handed_on}
use Rattle.host.specs.Code.Whole.{was_read, was_refused, read_tested, check_read, check-refused}
use Rattle.host.proofs.check_text.Goals as goal

pub check_passed-requires : goal.check_passed-requires
check_passed-requires c = read_tested (was_read _ _ _ refl refl c.read.ensures _ c.in_ok-script.was)

pub returns : goal.returns
returns c = check_read (was_read _ _ _ refl refl c.read.ensures _ c.in_ok-script.was) _ c.check_passed.ensures

pub returns-in_err-script : goal.returns-in_err-script
returns-in_err-script c =
    handed_on c.from_residual.result c.from_residual.ensures.1 ∙ check-refused _ _ (was_refused _ _ _ refl refl c.read.ensures _ c.in_err-script.was)
