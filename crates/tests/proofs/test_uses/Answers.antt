-- `tests::test_uses` meets its contract: the counts that it tests are those of the uses. Assumes nothing.
use mathlib.Core.Path.{ap, ◌∙◌}
use lib.ListN.{take}
use Rattle.script.specs.Flat.{nodes_in}
use Rattle.script.specs.Flat.{tested_by}
use Rattle.tests.specs.Counts.{counts-first, counts-uses, formed-length}
use Rattle.tests.specs.Whole.{zeros-made}
use Rattle.tests.proofs.test_uses.Goals as goal

pub count_uses-requires : goal.count_uses-requires
count_uses-requires c =
    record {
      formed_nodes = c.requires;
      zeros = zeros-made c.args.nodes c.requires.most;
    }

pub returns : goal.returns
returns c =
    let a = c.args in
    let u = c.count_uses.ensures in
    c.test_counts.ensures
    ∙ ap tested_by (counts-first _ a.nodes (rw (formed-length a.table.now a.nodes c.requires) at u.room))
    ∙ ap tested_by (counts-uses (take a.nodes (nodes_in a.table.now)) _ a.nodes (formed-length a.table.now a.nodes c.requires) c.count_uses.ensures)
