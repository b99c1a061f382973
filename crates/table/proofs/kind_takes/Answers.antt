-- `table::kind_takes` meets its contract: `int` and `var` take numbers, every other kind nodes. Assumes nothing.
use mathlib.Core.Path.{sym}
use Rattle.script.specs.Rows.Laws.{takes_int, takes_var, takes_nodes}
use Rattle.table.proofs.kind_takes.Goals as goal

pub returns-in-0 : goal.returns-in-0
returns-in-0 c = rw c.in-0.is (sym takes_int)

pub returns-in-3 : goal.returns-in-3
returns-in-3 c = rw c.in-3.is (sym takes_var)

pub returns-in_default : goal.returns-in_default
returns-in_default c = sym (takes_nodes c.args.kind c.in_default.in_default-own.rest.0.1 c.in_default.in_default-own.rest.1)
