-- The number that the bytes from i on make after the value is the whole number.
use Rattle.std.proofs.Common.{◌≡◌, ◌≤◌, drop}
use Rattle.trial.specs.Numbers.{largest, number_from, number_at}
use Rattle.trial.proofs.number_until.Given as goal

abbrev pub invariant-loop-i : goal.invariant-loop-i
invariant-loop-i l = record { fits : l.value ≤ largest; rest : number_from l.stop l.value l.i (drop l.i l.input) ≡ number_at l.stop l.input l.at }
