-- `frames::descend` meets its contract. The loop's invariant: whatever is reached from here on is reached from the start. The measure is the node's
-- number. Assumes nothing.
use mathlib.Core.Path.{sym, ◌∙◌}
use native.Mathlib.Omega.{arith}
use Rattle.workspace.specs.Frames.{down_to, down_from}
use Rattle.workspace.specs.Frames.Laws.{down_earlier, down_waitable, down_next}
use Rattle.frames.proofs.descend.Goals as goal

pub wait-requires : goal.wait-requires
wait-requires c =
    record {
      waitable = down_waitable c.loop-node.invariant.1 (rw (sym c.loop-node.invariant.0) (sym c.waits.ensures ∙ c.loop-node-test.true));
      awaits_lt_await_limit = omega arith;
    }

pub overflow_cast-n-in-loop-node : goal.overflow_cast-n-in-loop-node
overflow_cast-n-in-loop-node c =
    let e = down_earlier c.loop-node.invariant.1 (rw (sym c.loop-node.invariant.0) (sym c.waits.ensures ∙ c.loop-node-test.true)) in
    record { fits = rw c.loop-node.invariant.0 (omega arith) }

pub node_at-node-requires-in-loop-node : goal.node_at-node-requires-in-loop-node
node_at-node-requires-in-loop-node c =
    let e = down_earlier c.loop-node.invariant.1 (rw (sym c.loop-node.invariant.0) (sym c.waits.ensures ∙ c.loop-node-test.true)) in
    rw c.loop-node.invariant.0 (omega arith)

pub loop-node-smaller : goal.loop-node-smaller
loop-node-smaller c = rw c.loop-node.invariant.0 (down_earlier c.loop-node.invariant.1 (rw (sym c.loop-node.invariant.0) (sym c.waits.ensures ∙ c.loop-node-test.true)))

pub loop-node-preserved : goal.loop-node-preserved
loop-node-preserved c =
    let s = c.wait.ensures in (
      c.node_at-node-in-loop-node.ensures,
      rw c.loop-node.invariant.0 (down_next c.loop-node.invariant.1 (rw (sym c.loop-node.invariant.0) (sym c.waits.ensures ∙ c.loop-node-test.true)) s),
      s.same ∙ c.loop-node.invariant.2,
      λ r left d. c.loop-node.invariant.3 r left (down_from (rw (sym c.loop-node.invariant.0) (sym c.waits.ensures ∙ c.loop-node-test.true)) s (rw c.loop-node.invariant.0 at d)),
    )

pub returns : goal.returns
returns c = c.loop-node.invariant.3 _ _ (down_to (rw (sym c.loop-node.invariant.0) (sym c.waits.ensures ∙ c.loop-node-test.false)))
