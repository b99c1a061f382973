-- From i on all pass exactly if all do.
use Rattle.std.proofs.Common.{◌≡◌, drop}
use Rattle.std.specs.List.{list_all}
use Rattle.script.specs.Flat.{nodes_in}
use Rattle.texts.specs.Slices.{is_unused}
use Rattle.texts.proofs.slices.nodes_clear.Given as goal

abbrev pub invariant-loop-i : goal.invariant-loop-i
invariant-loop-i l = list_all is_unused (drop l.i (nodes_in l.table)) ≡ list_all is_unused (drop l.from (nodes_in l.table))
