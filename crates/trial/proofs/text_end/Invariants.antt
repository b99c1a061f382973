-- The first empty line, looked for from i on, is the one looked for from `at` on.
use Rattle.std.proofs.Common.{◌≡◌, drop, true}
use Rattle.trial.specs.Places.{empty_line}
use Rattle.trial.proofs.text_end.Given as goal

abbrev pub invariant-loop-i : goal.invariant-loop-i
invariant-loop-i l = empty_line l.starts l.i (drop l.i l.input) ≡ empty_line true l.at (drop l.at l.input)
