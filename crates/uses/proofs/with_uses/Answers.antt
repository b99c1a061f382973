-- `uses::with_uses` meets its contract, by the count of the node's operands. Assumes nothing.
use Rattle.uses.proofs.Laws.{no_operand, one_operand, two_operands, three_operands}
use Rattle.uses.proofs.with_uses.Goals as goal

pub returns-then-count-eq0 : goal.returns-then-count-eq0
returns-then-count-eq0 c = let a = c.args in let m = c.node_operands-count in no_operand a.u a.n m.result m.ensures c.if-count-eq0.true

pub returns-then-count-eq1 : goal.returns-then-count-eq1
returns-then-count-eq1 c = let a = c.args in let m = c.node_operands-count in one_operand a.u a.n m.result m.ensures c.if-count-eq1.true c.with_use-first.ensures

pub returns-then-count-eq2 : goal.returns-then-count-eq2
returns-then-count-eq2 c =
    let a = c.args in
    let m = c.node_operands-count in
    two_operands a.u a.n m.result m.ensures c.if-count-eq2.true c.with_use-first.ensures c.with_use-second.ensures

pub returns : goal.returns
returns c =
    let a = c.args in
    let m = c.node_operands-count in
    three_operands a.u a.n m.result m.ensures c.if-count-eq0.false c.if-count-eq1.false c.if-count-eq2.false c.with_use-first.ensures c.with_use-second.ensures c.with_use.ensures
