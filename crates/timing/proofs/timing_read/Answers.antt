-- `timing::timing_read` meets its contract: the reader's answer as a number. Assumes nothing.
use mathlib.Core.Path.{sym, ap}
use Rattle.timing.specs.Answers.{nodes_read}
use Rattle.timing.proofs.timing_read.Goals as goal

pub returns : goal.returns
returns c = record { answer = _; leaves_it = c.read.ensures; number_is = ap nodes_read (sym c.in-Ok.is) }

pub returns-in_default : goal.returns-in_default
returns-in_default c = record { answer = _; leaves_it = c.read.ensures; number_is = ap nodes_read (sym c.in_default.is) }
