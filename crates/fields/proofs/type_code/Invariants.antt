use mathlib.Core.Path.{◌≡◌}
use Prim.Native.Nat.{◌≤◌, ◌*◌}
use lib.ListN.{drop}
use Rattle.script.specs.Limits.{type_limit}
use Rattle.text.specs.Fields.{type_after, type_up_to, type_of}
use Rattle.fields.proofs.type_code.Given as goal

abbrev pub invariant-loop-i : goal.invariant-loop-i
invariant-loop-i l = (l.i ≤ 15) × (type_up_to type_limit (type_after (2 * l.i) (drop l.i l.f)) ≡ type_of l.f)
