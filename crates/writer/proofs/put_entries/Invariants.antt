use lib.ListN.{drop}
use Rattle.text.specs.Code.Output.Laws.{Remains}
use Rattle.text.specs.Writing.{entries_text}
use Rattle.writer.proofs.put_entries.Given as goal

abbrev pub invariant-loop-t : goal.invariant-loop-t
invariant-loop-t l = Remains (entries_text l.entries) 0 l.initial.out (entries_text (drop l.t-index l.entries)) l.at l.out
