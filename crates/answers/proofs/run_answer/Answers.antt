-- `answers::run_answer` meets its contract: how the run ended, or the refusal. Assumes nothing.
use mathlib.Core.Path.{sym, ap, ◌∙◌}
use Rattle.answers.specs.Answers.{answer_of_run}
use Rattle.answers.specs.Code.Packing.{run_refused}
use Rattle.answers.proofs.run_answer.Goals as goal

pub ended_answer-requires : goal.ended_answer-requires
ended_answer-requires c = rw c.in-Ok.is at c.requires

pub returns-in-Ok : goal.returns-in-Ok
returns-in-Ok c = c.ended_answer.ensures ∙ ap answer_of_run (sym c.in-Ok.is)

pub returns-in-Err : goal.returns-in-Err
returns-in-Err c = run_refused c.in-Err.is c.refusal_answer.ensures
