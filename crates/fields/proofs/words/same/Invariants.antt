use mathlib.Core.Path.{◌≡◌}
use Prim.Native.Nat.{◌≤◌}
use lib.ListN.{length, drop}
use Rattle.text.specs.Fields.{same_bytes}
use Rattle.fields.proofs.words.same.Given as goal

abbrev pub invariant-loop-i : goal.invariant-loop-i
invariant-loop-i l = (l.i ≤ length l.a) × (same_bytes (drop l.i l.a) (drop l.i l.b) ≡ same_bytes l.a l.b)
