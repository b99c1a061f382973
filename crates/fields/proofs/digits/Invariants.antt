use mathlib.Core.Path.{◌≡◌}
use Prim.Native.Nat.{◌≤◌}
use lib.ListN.{drop}
use Rattle.text.specs.Code.Scan.{number_after}
use Rattle.fields.proofs.digits.Given as goal

abbrev pub invariant-loop-c : goal.invariant-loop-c
invariant-loop-c l = (l.n ≤ l.limit) × (number_after l.limit l.n (drop l.c-index l.f) ≡ number_after l.limit 0 l.f)
