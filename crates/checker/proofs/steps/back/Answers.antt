-- `checker::steps::back` meets its contract: by the frame that it goes to, a value is taken by a rule, waits for the next operand, or is a body's. In the
-- answers s is the `requires`, l what the frame has, n its node, g that no operand had given yet, o that there are several. Assumes nothing.
use native.Mathlib.Omega.{arith}
use Rattle.checker.specs.Code.Going.OneFrame.{more_than_one, back_framed, back_node, back_lastable, back_last, back_room, back_one, back_waitable, back_plain, back_deep, back_let, back_decidable, back_forked, back_branch}
use Rattle.script.specs.Code.Forms.{has_one}
use Rattle.checker.proofs.steps.back.Goals as goal

pub node_at-node-requires : goal.node_at-node-requires
node_at-node-requires c =
    let s = c.requires in
    let l = c.leave-frame.ensures in
    rw l.value (back_node s.returnable s.bound)

pub last-requires : goal.last-requires
last-requires c =
    let s = c.requires in
    let l = c.leave-frame.ensures in
    rw l.value (back_lastable s.returnable s.bound (rw l.value at c.if-frame-ne-FOR_FIRST.true))

pub returns-then-frame-ne-FOR_FIRST : goal.returns-then-frame-ne-FOR_FIRST
returns-then-frame-ne-FOR_FIRST c =
    let s = c.requires in
    let l = c.leave-frame.ensures in
    let n = c.node_at-node.ensures in
    rw l.frames_after (back_last s.returnable s.bound (rw l.value at c.if-frame-ne-FOR_FIRST.true) (rw (n, l.value) at c.last.ensures))

pub one-requires : goal.one-requires
one-requires c =
    let s = c.requires in
    back_room s.returnable s.bound

pub returns-then-has_one : goal.returns-then-has_one
returns-then-has_one c =
    let s = c.requires in
    let l = c.leave-frame.ensures in
    let n = c.node_at-node.ensures in
    let g = rw l.value at c.if-frame-ne-FOR_FIRST.false in
    rw (l.frames_after, c.moved.ensures) (back_one s.returnable s.bound g (has_one _ (rw (n, l.value) at c.has_one.ensures) c.if-has_one.true) (rw (n, l.value) at c.one.ensures))

pub branch-space-requires : goal.branch-space-requires
branch-space-requires c =
    let s = c.requires in
    let l = c.leave-frame.ensures in
    let n = c.node_at-node.ensures in
    let g = rw l.value at c.if-frame-ne-FOR_FIRST.false in
    let o = more_than_one (rw (n, l.value) at c.has_one.ensures) c.if-has_one.false in
    let h = rw (n, l.value) at c.if-node-eq-IF.true in
    rw l.frames_after record {
      decidable = back_decidable s.returnable s.bound g o h;
      waitable = back_waitable s.returnable s.bound g o;
      frames_size_in_bounds = back_framed s.returnable s.bound;
      frames_bound = back_forked s.returnable s.bound g o h;
      space_bound = s.returnable.returning.stands.narrow;
    }

pub returns-then-node-eq-IF : goal.returns-then-node-eq-IF
returns-then-node-eq-IF c =
    let s = c.requires in
    let l = c.leave-frame.ensures in
    let n = c.node_at-node.ensures in
    let g = rw l.value at c.if-frame-ne-FOR_FIRST.false in
    let o = more_than_one (rw (n, l.value) at c.has_one.ensures) c.if-has_one.false in
    let h = rw (n, l.value) at c.if-node-eq-IF.true in
    back_branch s.returnable s.bound g o h (rw (n, l.value, l.frames_after) at c.branch-space.ensures)

pub wait-requires : goal.wait-requires
wait-requires c =
    let s = c.requires in
    let l = c.leave-frame.ensures in
    let n = c.node_at-node.ensures in
    let g = rw l.value at c.if-frame-ne-FOR_FIRST.false in
    let o = more_than_one (rw (n, l.value) at c.has_one.ensures) c.if-has_one.false in
    rw l.frames_after record {
      waitable = back_waitable s.returnable s.bound g o;
      awaits_lt_await_limit = omega arith;
    }

pub bind-requires : goal.bind-requires
bind-requires c =
    let s = c.requires in
    let l = c.leave-frame.ensures in
    let n = c.node_at-node.ensures in
    let g = rw l.value at c.if-frame-ne-FOR_FIRST.false in
    let o = more_than_one (rw (n, l.value) at c.has_one.ensures) c.if-has_one.false in
    record {
      space_size_in_bounds = s.returnable.returning.stands.lent;
      space_bound = back_deep s.returnable s.bound g o;
    }

pub returns-then-node-eq-LET : goal.returns-then-node-eq-LET
returns-then-node-eq-LET c =
    let s = c.requires in
    let l = c.leave-frame.ensures in
    let n = c.node_at-node.ensures in
    let g = rw l.value at c.if-frame-ne-FOR_FIRST.false in
    let o = more_than_one (rw (n, l.value) at c.has_one.ensures) c.if-has_one.false in
    let h = rw (n, l.value) at c.if-node-eq-LET.true in
    rw (n, l.value, c.bind.ensures) (back_let s.returnable s.bound g o h (rw (l.value, l.frames_after) at c.wait.ensures))

pub wait-requires-2 : goal.wait-requires-2
wait-requires-2 c =
    let s = c.requires in
    let l = c.leave-frame.ensures in
    let n = c.node_at-node.ensures in
    let g = rw l.value at c.if-frame-ne-FOR_FIRST.false in
    let o = more_than_one (rw (n, l.value) at c.has_one.ensures) c.if-has_one.false in
    rw l.frames_after record {
      waitable = back_waitable s.returnable s.bound g o;
      awaits_lt_await_limit = omega arith;
    }

pub returns : goal.returns
returns c =
    let s = c.requires in
    let l = c.leave-frame.ensures in
    let n = c.node_at-node.ensures in
    let g = rw l.value at c.if-frame-ne-FOR_FIRST.false in
    let o = more_than_one (rw (n, l.value) at c.has_one.ensures) c.if-has_one.false in
    rw (n, l.value) (back_plain s.returnable s.bound g o (rw (n, l.value) at c.if-node-eq-IF.false) (rw (n, l.value) at c.if-node-eq-LET.false) (rw (l.value, l.frames_after) at c.wait-2.ensures))
