-- `table::operand_at` meets its contract: each arm names one of the three operands. Assumes nothing.
use Rattle.script.specs.Table.Uses.{no_operand}
use Rattle.table.proofs.operand_at.Goals as goal

pub returns-in_default : goal.returns-in_default
returns-in_default c = let r = c.in_default.in_default-own.rest in no_operand c.args.n c.args.k r.0.0.1 r.0.1 r.1
