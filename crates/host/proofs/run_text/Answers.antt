-- `host::run_text` meets its contract: the text is read, and what was read is run. Assumes nothing.
use mathlib.Core.Path.{refl}
use Rattle.script.specs.Answers.Named.{handed_on}
use Rattle.host.specs.Code.Whole.{was_read, was_refused, read_tested, run_read, run_refused}
use Rattle.host.proofs.run_text.Goals as goal

pub run_passed-requires : goal.run_passed-requires
run_passed-requires c = read_tested (was_read _ _ _ refl refl c.read.ensures _ c.in_ok-script.was)

pub returns : goal.returns
returns c = run_read _ _ _ (was_read _ _ _ refl refl c.read.ensures _ c.in_ok-script.was) _ _ c.run_passed.ensures

pub returns-in_err-script : goal.returns-in_err-script
returns-in_err-script c =
    rw (handed_on c.from_residual.result c.from_residual.ensures.1) (run_refused _ _ _ _ _ (was_refused _ _ _ refl refl c.read.ensures _ c.in_err-script.was))
