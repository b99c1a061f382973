-- The trials up to here led to this place and state, and each turn goes on in the input.
use Rattle.std.proofs.Common.{◌-◌, length}
use Rattle.trial.specs.Trials.{Turns}
use Rattle.trial.proofs.try_all.Given as goal

abbrev pub invariant-loop-at : goal.invariant-loop-at
invariant-loop-at g l = Turns g.F.Fn l.try_at (length l.input) l.initial.state l.at l.state

abbrev pub decreases-loop-at : goal.decreases-loop-at
decreases-loop-at g l = length l.input - l.at
