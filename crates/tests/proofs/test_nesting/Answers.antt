-- `tests::test_nesting` meets its contract: few `sym` are not too deep, and the depths that it tests are the numbers of `sym` around. Assumes nothing.
use mathlib.Core.Path.{sym, ap, ◌∙◌}
use native.Mathlib.Omega.{arith}
use lib.ListN.{take}
use Rattle.script.specs.Flat.{nodes_in}
use Rattle.script.specs.Flat.{tested_by}
use Rattle.tests.specs.Counts.{nesting_depths}
use Rattle.tests.specs.Few.{few-shallow}
use Rattle.tests.specs.Whole.{zeros-made}
use Rattle.tests.proofs.test_nesting.Goals as goal

pub returns-then-count_syms-le-NESTING : goal.returns-then-count_syms-le-NESTING
returns-then-count_syms-le-NESTING c = sym (ap tested_by (few-shallow (take c.args.nodes (nodes_in c.args.table.now)) (omega (arith, c.count_syms.ensures, c.if-count_syms-le-NESTING.true))))

pub note_depths-requires : goal.note_depths-requires
note_depths-requires c =
    record {
      formed_nodes = c.requires;
      zeros = zeros-made c.args.nodes c.requires.most;
    }

pub returns : goal.returns
returns c = c.test_depths.ensures ∙ ap tested_by (nesting_depths (take c.args.nodes (nodes_in c.args.table.now)) _ c.note_depths.ensures)
