-- The end of the line, looked for from i on, is the one looked for from `at` on.
use Rattle.std.proofs.Common.{◌≡◌, drop}
use Rattle.trial.specs.Places.{line_end}
use Rattle.trial.proofs.name_end.Given as goal

abbrev pub invariant-loop-i : goal.invariant-loop-i
invariant-loop-i l = line_end l.i (drop l.i l.input) ≡ line_end l.at (drop l.at l.input)
