use Prim.Native.Nat.{◌+◌}
use lib.ListN.{drop}
use Rattle.text.specs.Code.Output.Laws.{Remains}
use Rattle.output.proofs.put_bytes.Given as goal

abbrev pub invariant-loop-i : goal.invariant-loop-i
invariant-loop-i l = Remains l.bytes l.at l.initial.out (drop l.i l.bytes) (l.at + l.i) l.out
