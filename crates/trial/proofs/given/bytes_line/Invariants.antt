-- The first n bytes of `out`, and those that come from i on, are the whole line.
use Rattle.std.proofs.Common.{◌≡◌}
use Rattle.trial.specs.Given.{bytes_line}
use Rattle.trial.specs.Given.Laws.{going}
use Rattle.trial.proofs.given.bytes_line.Given as goal

abbrev pub invariant-loop-n : goal.invariant-loop-n
invariant-loop-n l = going l.input l.n l.i l.out ≡ bytes_line l.input l.at l.initial.out
