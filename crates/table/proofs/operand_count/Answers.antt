-- `table::operand_count` meets its contract: the constant table holds the counts of the rows. Assumes nothing.
use mathlib.Core.Path.{sym}
use native.Mathlib.Omega.{arith}
use Rattle.script.specs.Rows.{rows}
use Rattle.script.specs.Rows.Laws.{operand-counts, operands-most, no_operands}
use Rattle.table.proofs.operand_count.Goals as goal

pub overflow_cast-result-then-kind-lt-KINDS : goal.overflow_cast-result-then-kind-lt-KINDS
unfolding rows
overflow_cast-result-then-kind-lt-KINDS c =
    let e = operand-counts c.args.kind in
    let m = operands-most c.args.kind in
    record { fits = omega arith }

pub returns-then-kind-lt-KINDS : goal.returns-then-kind-lt-KINDS
unfolding rows
returns-then-kind-lt-KINDS c = operand-counts c.args.kind

pub returns : goal.returns
unfolding rows
returns c = sym (no_operands c.args.kind c.if-kind-lt-KINDS.false)
