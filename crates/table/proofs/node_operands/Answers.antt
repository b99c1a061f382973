-- `table::node_operands` meets its contract: a leaf has no operands that are nodes, any other kind no others. Assumes nothing.
use mathlib.Core.Path.{sym, ◌∙◌}
use Rattle.script.specs.Code.Forms.{leaf_kinds_lem, all-nodes}
use Rattle.table.proofs.node_operands.Goals as goal

pub returns-then-kind-lt-LEAVES : goal.returns-then-kind-lt-LEAVES
returns-then-kind-lt-LEAVES c = sym (leaf_kinds_lem c.args.kind c.if-kind-lt-LEAVES.true)

pub returns : goal.returns
returns c = c.operand_count.ensures ∙ all-nodes c.args.kind c.if-kind-lt-LEAVES.false
