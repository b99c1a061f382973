-- `runner::steps::rest` and `runner::steps::run_node` meet their contracts: a node's number falls with each operand that is run. In the answers s is
-- the start of the function, o the place after the node is read, x the one after `next_operand`, and p the one after the first operand or after `bind`.
-- Assumes nothing.
use mathlib.Core.Path.{sym, ◌∙◌}
use native.Mathlib.Omega.{arith}
use Rattle.script.specs.Answers.Named.{handed_on, lacking, there_is}
use Rattle.script.specs.Code.Forms.{has_one, has_more, some-operand}
use Rattle.runner.specs.Code.Turns.{leaf-runs, first-earlier, ready_first, first-failed, first-ranged, one_ready, one_runs, half_ready, rest-runs, wrong-runs, bind_ready, next-earlier, next_ready, next-failed, two-ranged, two_ready, two_runs}
use Rattle.runner.proofs.steps.+rest_run_node.Goals as goal

pub rest-node_at-node-requires : goal.rest-node_at-node-requires
rest-node_at-node-requires t c =
    omega (arith, c.requires.formed.room)

pub rest-bind-inner-requires : goal.rest-bind-inner-requires
rest-bind-inner-requires t c =
    let q = c.requires in
    record {
      variables = bind_ready q;
      in_range = q.ranged;
    }

pub rest-run_node-requires : goal.rest-run_node-requires
rest-run_node-requires t c =
    let q = c.requires in
    let node = c.node_at-node.ensures in
    let e = sym (rw node at c.next_operand.ensures) ∙ there_is c.next_operand.result (c.args.n, c.args.used) (sym c.ok_or.ensures.value ∙ c.in_ok-m.was) in
    let b = rw node at c.bind-inner.ensures in
    let l = c.environment-1.given in
    (omega (arith, next-earlier q e b, c.decreases), next_ready q e b l)

pub rest-two-requires : goal.rest-two-requires
rest-two-requires t c =
    let q = c.requires in
    let node = c.node_at-node.ensures in
    let e = sym (rw node at c.next_operand.ensures) ∙ there_is c.next_operand.result (c.args.n, c.args.used) (sym c.ok_or.ensures.value ∙ c.in_ok-m.was) in
    let b = rw node at c.bind-inner.ensures in
    let l = c.environment-1.given in
    let d = c.run_node.ensures in
    let f = sym c.whole.ensures ∙ c.in_ok-w.was in
    record {
      cells = two_ready q e b l d f;
      in_range = two-ranged q e b l d f;
    }

pub rest-returns-in_err-m : goal.rest-returns-in_err-m
rest-returns-in_err-m t c =
    let node = c.node_at-node.ensures in
    let l = lacking c.next_operand.result (c.args.n, c.args.used) (sym c.ok_or.ensures.value ∙ c.in_err-m.was) in
    rw (handed_on c.from_residual.result c.from_residual.ensures.1, l.1) (wrong-runs c.requires (sym (rw node at c.next_operand.ensures) ∙ l.0))

pub rest-returns-in_err-w : goal.rest-returns-in_err-w
rest-returns-in_err-w t c =
    let q = c.requires in
    let node = c.node_at-node.ensures in
    let e = sym (rw node at c.next_operand.ensures) ∙ there_is c.next_operand.result (c.args.n, c.args.used) (sym c.ok_or.ensures.value ∙ c.in_ok-m.was) in
    let b = rw node at c.bind-inner.ensures in
    let l = c.environment-1.given in
    rw (handed_on c.from_residual-in_err-w.result c.from_residual-in_err-w.ensures.1) (next-failed q e b l c.run_node.ensures (sym c.whole.ensures ∙ c.in_err-w.was))

pub rest-returns : goal.rest-returns
rest-returns t c =
    let q = c.requires in
    let node = c.node_at-node.ensures in
    let e = sym (rw node at c.next_operand.ensures) ∙ there_is c.next_operand.result (c.args.n, c.args.used) (sym c.ok_or.ensures.value ∙ c.in_ok-m.was) in
    let b = rw node at c.bind-inner.ensures in
    let l = c.environment-1.given in
    two_runs q e b l c.run_node.ensures (sym c.whole.ensures ∙ c.in_ok-w.was) (rw node at c.two.ensures)

pub run_node-node_at-node-requires : goal.run_node-node_at-node-requires
run_node-node_at-node-requires t c =
    omega (arith, c.requires.formed.room)

pub run_node-leaf-requires : goal.run_node-leaf-requires
run_node-leaf-requires t c =
    omega (arith, c.requires.environment.room)

pub run_node-returns-then-node-lt-LEAVES : goal.run_node-returns-then-node-lt-LEAVES
run_node-returns-then-node-lt-LEAVES t c =
    let node = c.node_at-node.ensures in
    rw c.parts_of.ensures (leaf-runs c.requires (rw node at c.if-node-lt-LEAVES.true) (rw node at c.leaf.ensures))

pub run_node-run_node-requires : goal.run_node-run_node-requires
run_node-run_node-requires t c =
    let node = c.node_at-node.ensures in
    let h = some-operand c.requires.formed (rw node at c.if-node-lt-LEAVES.false) in
    rw node (omega (arith, first-earlier c.requires h, c.decreases), ready_first c.requires h)

pub run_node-one-requires : goal.run_node-one-requires
run_node-one-requires t c =
    let q = c.requires in
    let node = c.node_at-node.ensures in
    let h = some-operand q.formed (rw node at c.if-node-lt-LEAVES.false) in
    let d = rw node at c.run_node.ensures in
    let e = sym c.whole.ensures ∙ c.in-Ok.is in
    record {
      cells = one_ready q h d e;
      in_range = first-ranged q h d e;
    }

pub run_node-returns-then-has_one : goal.run_node-returns-then-has_one
run_node-returns-then-has_one t c =
    let q = c.requires in
    let node = c.node_at-node.ensures in
    let h = some-operand q.formed (rw node at c.if-node-lt-LEAVES.false) in
    let d = rw node at c.run_node.ensures in
    let k = has_one _ (rw node at c.has_one.ensures) c.if-has_one.true in
    rw c.parts_of-then-has_one.ensures (one_runs q h d (sym c.whole.ensures ∙ c.in-Ok.is) k (rw node at c.one.ensures))

pub run_node-rest-requires : goal.run_node-rest-requires
run_node-rest-requires t c =
    let q = c.requires in
    let node = c.node_at-node.ensures in
    let h = some-operand q.formed (rw node at c.if-node-lt-LEAVES.false) in
    let d = rw node at c.run_node.ensures in
    let k = has_more _ h (rw node at c.has_one.ensures) c.if-has_one.false in
    (omega (arith, c.decreases), half_ready q h d (sym c.whole.ensures ∙ c.in-Ok.is) k c.environment-1.given)

pub run_node-returns-in-Err : goal.run_node-returns-in-Err
run_node-returns-in-Err t c =
    let q = c.requires in
    let node = c.node_at-node.ensures in
    let h = some-operand q.formed (rw node at c.if-node-lt-LEAVES.false) in
    let d = rw node at c.run_node.ensures in
    first-failed q h d (sym c.whole.ensures ∙ c.in-Err.is)

pub run_node-returns-else-has_one : goal.run_node-returns-else-has_one
run_node-returns-else-has_one t c =
    let q = c.requires in
    let node = c.node_at-node.ensures in
    let h = some-operand q.formed (rw node at c.if-node-lt-LEAVES.false) in
    let d = rw node at c.run_node.ensures in
    let k = has_more _ h (rw node at c.has_one.ensures) c.if-has_one.false in
    rw c.parts_of-in-Ok.ensures (rest-runs q h d (sym c.whole.ensures ∙ c.in-Ok.is) k c.rest.ensures)
