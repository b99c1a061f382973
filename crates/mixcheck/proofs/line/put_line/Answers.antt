-- The line of the answer of `check_text`.
use Rattle.mixcheck.specs.Line.Laws.{line_put}
use Rattle.mixcheck.proofs.line.put_line.Goals as goal

pub returns-in-Ok : goal.returns-in-Ok
returns-in-Ok c = line_put _ c.check_text.ensures c.requires c.in-Ok.is c.put_accepted.ensures

pub returns-in-Err : goal.returns-in-Err
returns-in-Err c = line_put _ c.check_text.ensures c.requires c.in-Err.is c.put_refused.ensures
