-- The checker meets its contracts: `check_node`, `check_several`, `operand_type`, `paths`, `walk`, `arrive`, `block_up` and `block_type` of `checker::nodes`, which call each
-- other; a node's number falls on the way round. In the answers s is the start's measure and `requires`, q the `requires`, node what was read, h that it has an operand,
-- d what that one came to, or the way down to the inner node, w what holds at a turn of the loop, b what was bound, or what a block came to. Assumes nothing.
use mathlib.Core.Path.{refl, ◌∙◌}
use native.Mathlib.Omega.{arith}
use Rattle.script.specs.Answers.Named.{handed_on}
use Rattle.script.specs.Code.Forms.{has_one, has_more, some-operand}
use Rattle.workspace.specs.Paths.Empty.{blank}
use Rattle.workspace.specs.Rules.Blocks.{block_recallables, block_recalled, block_judged, block_noted}
use Rattle.workspace.specs.Rules.Typed.{some_of, several_no_sym, leaf_judged, first-earlier, first_checkable, sym_judged, one_judged, rest_checkable, rest_judged, first-refused, bind-room, second-earlier, second_checkable, third_earlier, third_checkable, if_judged, third_refused, two_judged, second-refused}
use Rattle.checker.specs.Code.Going.Arriving.{up-earlier, up_checkable, up_noting, up-refused, up_room, up-returnable, up_climbing, up-stopping}
use Rattle.checker.specs.Code.Going.Steps.{descends_other}
use Rattle.checker.specs.Code.Going.Walking.{walking_descendable, walking-enterable, walking-earlier, walking_less, walking_on, walking-stopped, walking_end, walking-ended, turn-start, turn_walkable, turn-none, turn-wrong, turn_last, turn_more, no_frames}
use Rattle.checker.proofs.nodes.+arrive_block_type_block_up_check_node_check_several_operand_type_paths_walk.Goals as goal

pub block_type-recall-requires : goal.block_type-recall-requires
block_type-recall-requires t c = let s = c.requires in block_recallables s.checkable s.noting

pub block_type-returns-in-Some : goal.block_type-returns-in-Some
block_type-returns-in-Some t c =
    let s = c.requires in
    block_recalled s.checkable s.noting c.recall.ensures c.in-Some.is

pub block_type-returns-in_err-t : goal.block_type-returns-in_err-t
block_type-returns-in_err-t t c =
    let s = c.requires in
    rw (handed_on c.from_residual.result c.from_residual.ensures.1) (block_judged s.checkable s.noting c.check_node.ensures c.in_err-t.was)

pub block_type-returns : goal.block_type-returns
block_type-returns t c =
    let s = c.requires in
    block_noted s.checkable s.noting c.check_node.ensures c.in_ok-t.was c.note.ensures

pub block_up-block_type-requires : goal.block_up-block_type-requires
block_up-block_type-requires t c =
    let s = c.requires in
    let node = c.node_at-a.ensures in
    rw node (
      omega (arith, up-earlier s.enterable s.n_value, c.decreases),
      (up_checkable s.enterable s.n_value, up_noting s.enterable s.n_value),
    )

pub block_up-typed_result-requires : goal.block_up-typed_result-requires
block_up-typed_result-requires t c =
    let s = c.requires in
    let b = rw c.node_at-a.ensures at c.block_type.ensures in
    up_room s.enterable s.n_value b

pub block_up-climb-requires : goal.block_up-climb-requires
block_up-climb-requires t c =
    let s = c.requires in
    let b = rw c.node_at-a.ensures at c.block_type.ensures in
    up-returnable s.enterable s.n_value b c.in_ok-t.was c.typed_result.ensures c.in_ok-value.was

pub block_up-returns-in_err-t : goal.block_up-returns-in_err-t
block_up-returns-in_err-t t c =
    let s = c.requires in
    let b = rw c.node_at-a.ensures at c.block_type.ensures in
    rw (handed_on c.from_residual.result c.from_residual.ensures.1) (up-refused s.enterable s.n_value b c.in_err-t.was)

pub block_up-returns-in_err-value : goal.block_up-returns-in_err-value
block_up-returns-in_err-value t c =
    let s = c.requires in
    let b = rw c.node_at-a.ensures at c.block_type.ensures in
    rw (handed_on c.from_residual-in_err-value.result c.from_residual-in_err-value.ensures.1) (up-stopping s.enterable s.n_value b c.in_ok-t.was c.typed_result.ensures c.in_err-value.was)

pub block_up-returns : goal.block_up-returns
block_up-returns t c =
    let s = c.requires in
    let b = rw c.node_at-a.ensures at c.block_type.ensures in
    up_climbing s.enterable s.n_value b c.in_ok-t.was c.typed_result.ensures c.in_ok-value.was c.climb.ensures

pub check_node-returns-then-node-lt-LEAVES : goal.check_node-returns-then-node-lt-LEAVES
check_node-returns-then-node-lt-LEAVES t c =
    let q = c.requires in
    let node = c.node_at-node.ensures in
    leaf_judged q _ (rw node at c.if-node-lt-LEAVES.true) (rw node at c.leaf_type.ensures)

pub check_node-paths-requires : goal.check_node-paths-requires
check_node-paths-requires t c =
    let q = c.requires in
    let node = c.node_at-node.ensures in
    let h = some-operand q.formed (rw node at c.if-node-lt-LEAVES.false) in
    rw node (
      omega (arith, c.decreases),
      (first_checkable q h, first-earlier q h),
    )

pub check_node-returns-then-node-eq-SYM : goal.check_node-returns-then-node-eq-SYM
check_node-returns-then-node-eq-SYM t c =
    let q = c.requires in
    let node = c.node_at-node.ensures in
    rw c.copied.ensures (sym_judged q _ (rw node at c.if-node-eq-SYM.true) (rw node at c.paths.ensures))

pub check_node-check_node-requires : goal.check_node-check_node-requires
check_node-check_node-requires t c =
    let q = c.requires in
    let node = c.node_at-node.ensures in
    let h = some-operand q.formed (rw node at c.if-node-lt-LEAVES.false) in
    rw node (omega (arith, first-earlier q h, c.decreases), first_checkable q h)

pub check_node-returns-in_err-t : goal.check_node-returns-in_err-t
check_node-returns-in_err-t t c =
    let q = c.requires in
    let node = c.node_at-node.ensures in
    let h = some-operand q.formed (rw node at c.if-node-lt-LEAVES.false) in
    let d = rw node at c.check_node.ensures in
    rw (handed_on c.from_residual.result c.from_residual.ensures.1) (first-refused q h _ d c.in_err-t.was (rw node at c.if-node-eq-SYM.false))

pub check_node-returns-then-has_one : goal.check_node-returns-then-has_one
check_node-returns-then-has_one t c =
    let q = c.requires in
    let node = c.node_at-node.ensures in
    let h = some-operand q.formed (rw node at c.if-node-lt-LEAVES.false) in
    let d = rw node at c.check_node.ensures in
    let z = has_one _ (rw node at c.has_one.ensures) c.if-has_one.true in
    one_judged q h _ d c.in_ok-t.was z (rw node at c.if-node-eq-SYM.false) (rw node at c.one_type.ensures)

pub check_node-check_several-requires : goal.check_node-check_several-requires
check_node-check_several-requires t c =
    let q = c.requires in
    let node = c.node_at-node.ensures in
    let h = some-operand q.formed (rw node at c.if-node-lt-LEAVES.false) in (
      omega (arith, c.decreases),
      (q, has_more _ h (rw node at c.has_one.ensures) c.if-has_one.false),
    )

pub check_several-operand_type-requires : goal.check_several-operand_type-requires
check_several-operand_type-requires t c =
    let s = c.requires in
    let q = s.checkable in
    let h = some_of s.bound in
    let node = c.node_at-node.ensures in
    rw node (omega (arith, first-earlier q h, c.decreases), first_checkable q h)

pub check_several-bind_type-inner-requires : goal.check_several-bind_type-inner-requires
check_several-bind_type-inner-requires t c =
    let s = c.requires in
    let q = s.checkable in
    let h = some_of s.bound in
    let node = c.node_at-node.ensures in
    let d = rw node at c.operand_type.ensures in
    let r = rest_checkable q h _ d c.in_ok-t.was s.bound in
    record {
      depth_lt_symbol_limit = bind-room r;
      variables_end_in_bounds = r.lent;
    }

pub check_several-operand_type-requires-2 : goal.check_several-operand_type-requires-2
check_several-operand_type-requires-2 t c =
    let s = c.requires in
    let q = s.checkable in
    let h = some_of s.bound in
    let node = c.node_at-node.ensures in
    let d = rw node at c.operand_type.ensures in
    let r = rest_checkable q h _ d c.in_ok-t.was s.bound in
    let b = rw node at c.bind_type-inner.ensures in
    rw node (omega (arith, second-earlier r, c.decreases), second_checkable r b)

pub check_several-operand_type-requires-then-node-eq-IF : goal.check_several-operand_type-requires-then-node-eq-IF
check_several-operand_type-requires-then-node-eq-IF t c =
    let s = c.requires in
    let q = s.checkable in
    let h = some_of s.bound in
    let node = c.node_at-node.ensures in
    let d = rw node at c.operand_type.ensures in
    let r = rest_checkable q h _ d c.in_ok-t.was s.bound in
    let b = rw node at c.bind_type-inner.ensures in
    let e = rw node at c.operand_type-2.ensures in
    let i = rw node at c.if-node-eq-IF.true in
    rw node (omega (arith, third_earlier r b _ e i, c.decreases), third_checkable r b _ e i)

pub check_several-returns-in_err-v : goal.check_several-returns-in_err-v
check_several-returns-in_err-v t c =
    let s = c.requires in
    let q = s.checkable in
    let h = some_of s.bound in
    let node = c.node_at-node.ensures in
    let d = rw node at c.operand_type.ensures in
    let r = rest_checkable q h _ d c.in_ok-t.was s.bound in
    let b = rw node at c.bind_type-inner.ensures in
    let e = rw node at c.operand_type-2.ensures in
    let i = rw node at c.if-node-eq-IF.true in
    rw (handed_on c.from_residual-in_err-v.result c.from_residual-in_err-v.ensures.1) (rest_judged q h _ d c.in_ok-t.was s.bound
    (third_refused r b _ e i c.in_ok-u.was (rw node at c.operand_type-then-node-eq-IF.ensures) c.in_err-v.was))

pub check_several-returns-then-node-eq-IF : goal.check_several-returns-then-node-eq-IF
check_several-returns-then-node-eq-IF t c =
    let s = c.requires in
    let q = s.checkable in
    let h = some_of s.bound in
    let node = c.node_at-node.ensures in
    let d = rw node at c.operand_type.ensures in
    let r = rest_checkable q h _ d c.in_ok-t.was s.bound in
    let b = rw node at c.bind_type-inner.ensures in
    let e = rw node at c.operand_type-2.ensures in
    let i = rw node at c.if-node-eq-IF.true in
    rest_judged q h _ d c.in_ok-t.was s.bound
    (if_judged r b _ e i c.in_ok-u.was (rw node at c.operand_type-then-node-eq-IF.ensures) c.in_ok-v.was c.if_type.ensures)

pub check_several-returns-in_err-t : goal.check_several-returns-in_err-t
check_several-returns-in_err-t t c =
    let s = c.requires in
    let q = s.checkable in
    let h = some_of s.bound in
    let node = c.node_at-node.ensures in
    let d = rw node at c.operand_type.ensures in
    rw (handed_on c.from_residual.result c.from_residual.ensures.1) (first-refused q h _ d c.in_err-t.was (several_no_sym s.bound))

pub check_several-returns-in_err-u : goal.check_several-returns-in_err-u
check_several-returns-in_err-u t c =
    let s = c.requires in
    let q = s.checkable in
    let h = some_of s.bound in
    let node = c.node_at-node.ensures in
    let d = rw node at c.operand_type.ensures in
    let r = rest_checkable q h _ d c.in_ok-t.was s.bound in
    let b = rw node at c.bind_type-inner.ensures in
    let e = rw node at c.operand_type-2.ensures in
    rw (handed_on c.from_residual-in_err-u.result c.from_residual-in_err-u.ensures.1) (rest_judged q h _ d c.in_ok-t.was s.bound (second-refused r b _ e c.in_err-u.was))

pub check_several-returns : goal.check_several-returns
check_several-returns t c =
    let s = c.requires in
    let q = s.checkable in
    let h = some_of s.bound in
    let node = c.node_at-node.ensures in
    let d = rw node at c.operand_type.ensures in
    let r = rest_checkable q h _ d c.in_ok-t.was s.bound in
    let b = rw node at c.bind_type-inner.ensures in
    let e = rw node at c.operand_type-2.ensures in
    rest_judged q h _ d c.in_ok-t.was s.bound
    (two_judged r b _ e (rw node at c.if-node-eq-IF.false) c.in_ok-u.was (rw node at c.two_type.ensures))

pub operand_type-returns-then-node-lt-LEAVES : goal.operand_type-returns-then-node-lt-LEAVES
operand_type-returns-then-node-lt-LEAVES t c =
    let q = c.requires in
    let node = c.node_at-node.ensures in
    leaf_judged q _ (rw node at c.if-node-lt-LEAVES.true) (rw node at c.leaf_type.ensures)

pub operand_type-check_several-requires : goal.operand_type-check_several-requires
operand_type-check_several-requires t c =
    let q = c.requires in
    let node = c.node_at-node.ensures in
    let h = some-operand q.formed (rw node at c.if-node-lt-LEAVES.false) in (
      omega (arith, c.decreases),
      (q, has_more _ h (rw node at c.has_one.ensures) c.if-has_one.false),
    )

pub paths-start-requires : goal.paths-start-requires
paths-start-requires t c =
    let q = c.requires.checkable in
    record {
      depth_in_bounds = omega (arith, q.variables, q.lent);
      depth_le_symbol_limit = omega (arith, q.variables);
      blank = blank;
    }

pub paths-loop-followed-init : goal.paths-loop-followed-init
paths-loop-followed-init t c =
    let s = c.requires in
    turn-start (omega (arith, c.space-2-1.given)) refl no_frames s.a_lt_n s.checkable c.start.ensures

pub paths-walk-requires : goal.paths-walk-requires
paths-walk-requires t c = (omega (arith, c.decreases), turn_walkable c.loop-followed.invariant)

pub paths-returns-in_err-t : goal.paths-returns-in_err-t
paths-returns-in_err-t t c =
    rw (handed_on c.from_residual.result c.from_residual.ensures.1) (turn-wrong c.loop-followed.invariant c.loop-followed-test.true c.walk.ensures c.in_err-t.was)

pub paths-returns-in-Last : goal.paths-returns-in-Last
paths-returns-in-Last t c = turn_last c.loop-followed.invariant c.loop-followed-test.true c.walk.ensures (rw c.in-Last.is at c.in_ok-t.was)

pub paths-loop-followed-preserved : goal.paths-loop-followed-preserved
paths-loop-followed-preserved t c =
    turn_more c.loop-followed.invariant c.loop-followed-test.true c.walk.ensures (rw c.in-More.is at c.in_ok-t.was) c.walk.auto.space
    c.walk.auto.frames

pub paths-returns : goal.paths-returns
paths-returns t c = turn-none c.loop-followed.invariant c.loop-followed-test.false

pub walk-descend-inner-requires : goal.walk-descend-inner-requires
walk-descend-inner-requires t c = walking_descendable c.loop-u.invariant

pub walk-arrive-requires : goal.walk-arrive-requires
walk-arrive-requires t c =
    let w = c.loop-u.invariant in
    let d = c.descend-inner.ensures in (
      omega (arith, walking-earlier w d, c.decreases),
      (walking-enterable w d, descends_other d),
    )

pub walk-returns-in_err-u : goal.walk-returns-in_err-u
walk-returns-in_err-u t c =
    rw (handed_on c.from_residual.result c.from_residual.ensures.1) (walking-stopped c.loop-u.invariant c.descend-inner.ensures c.arrive.ensures c.in_err-u.was)

pub walk-path_end-requires : goal.walk-path_end-requires
walk-path_end-requires t c =
    walking_end c.loop-u.invariant c.descend-inner.ensures c.arrive.ensures (rw c.in-Value.is at c.in_ok-u.was)

pub walk-returns-in-Value : goal.walk-returns-in-Value
walk-returns-in-Value t c =
    walking-ended c.loop-u.invariant c.descend-inner.ensures c.arrive.ensures (rw c.in-Value.is at c.in_ok-u.was) c.path_end.ensures

pub walk-loop-u-smaller : goal.walk-loop-u-smaller
walk-loop-u-smaller t c =
    walking_less c.loop-u.invariant c.descend-inner.ensures c.arrive.ensures (rw c.in-Operand.is at c.in_ok-u.was)

pub walk-loop-u-preserved : goal.walk-loop-u-preserved
walk-loop-u-preserved t c =
    walking_on c.loop-u.invariant c.descend-inner.ensures c.arrive.ensures (rw c.in-Operand.is at c.in_ok-u.was) c.arrive.auto.space
    (c.arrive.auto.frames ∙ c.descend-inner.auto.frames)
