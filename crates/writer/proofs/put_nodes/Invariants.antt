use lib.ListN.{take, drop}
use Rattle.script.specs.Flat.{nodes_in}
use Rattle.text.specs.Code.Output.Laws.{Remains}
use Rattle.text.specs.Writing.{nodes_text}
use Rattle.writer.proofs.put_nodes.Given as goal

abbrev pub invariant-loop-i : goal.invariant-loop-i
invariant-loop-i l = Remains (nodes_text (take l.count (nodes_in l.table))) l.from l.initial.out (nodes_text (drop l.i (take l.count (nodes_in l.table)))) l.at l.out
