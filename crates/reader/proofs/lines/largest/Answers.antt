-- `reader::lines::largest` meets its contract. Assumes nothing.
use mathlib.Core.Path.{sym, ◌∙◌}
use Rattle.text.specs.Code.Scan.Nodes.{largest-number, largest-node}
use Rattle.reader.proofs.lines.largest.Goals as goal

pub returns-in-Number : goal.returns-in-Number
returns-in-Number c = let k = c.args.kind in sym (largest-number k c.in-Number.limit (sym c.kind_takes.ensures ∙ c.in-Number.is))

pub returns-in-Nodes : goal.returns-in-Nodes
returns-in-Nodes c = let k = c.args.kind in sym (largest-node k (sym c.kind_takes.ensures ∙ c.in-Nodes.is))
