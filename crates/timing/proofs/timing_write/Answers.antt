-- `timing::timing_write` meets its contract: the writer's answer as a number. Assumes nothing.
use mathlib.Core.Path.{sym, ap}
use Rattle.timing.specs.Answers.{bytes_written}
use Rattle.timing.proofs.timing_write.Goals as goal

pub returns-in-Ok : goal.returns-in-Ok
returns-in-Ok c = record { answer = _; leaves_it = c.write.ensures; number_is = ap bytes_written (sym c.in-Ok.is) }

pub returns-in-Err : goal.returns-in-Err
returns-in-Err c = record { answer = _; leaves_it = c.write.ensures; number_is = ap bytes_written (sym c.in-Err.is) }
