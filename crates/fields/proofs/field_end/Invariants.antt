use mathlib.Core.Path.{◌≡◌}
use Prim.Native.Nat.{◌≤◌, ◌+◌}
use lib.ListN.{length, drop}
use Rattle.text.specs.Code.Scan.{field_in}
use Rattle.fields.proofs.field_end.Given as goal

abbrev pub invariant-loop-e : goal.invariant-loop-e
invariant-loop-e l = (l.e ≤ length l.text) × (l.e + length (field_in (drop l.e l.text)) ≡ l.from + length (field_in (drop l.from l.text)))
