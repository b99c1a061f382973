-- `answers::check_answer` meets its contract. Assumes nothing.
use Rattle.answers.specs.Code.Packing.{check_accepted, check-refused}
use Rattle.answers.proofs.check_answer.Goals as goal

pub returns-in-Ok : goal.returns-in-Ok
returns-in-Ok c = check_accepted c.in-Ok.is c.pack.ensures

pub returns-in-Err : goal.returns-in-Err
returns-in-Err c = check-refused c.in-Err.is c.refusal_answer.ensures
