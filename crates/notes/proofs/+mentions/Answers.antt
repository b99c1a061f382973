-- `notes::mentions` meets its contract: a node's number falls with each operand. In the answers s is the start's measure and `requires`, w the
-- `requires`, node what was read, h that it has an operand, m that it has more, a and b that the first and the second one do not mention the variable.
-- Assumes nothing.
use mathlib.Core.Path.{sym, ◌∙◌}
use native.Mathlib.Omega.{arith}
use Rattle.script.specs.Code.Forms.{has_one, has_more, some-operand, formed_less}
use Rattle.workspace.specs.Notes.Mentions.{leaf-mentions, first-mentions, one_mentions-not, second-mentions, third_mentions, several_mention_not, first-earlier, second-earlier, third_earlier}
use Rattle.notes.proofs.+mentions.Goals as goal

pub returns-then-node-lt-LEAVES : goal.returns-then-node-lt-LEAVES
returns-then-node-lt-LEAVES t c =
    let w = c.requires in
    let node = c.node_at-node.ensures in
    rw node at c.is_variable.ensures ∙ leaf-mentions w _ (rw node at c.if-node-lt-LEAVES.true)

pub mentions-requires : goal.mentions-requires
mentions-requires t c =
    let w = c.requires in
    let node = c.node_at-node.ensures in
    let h = some-operand w (rw node at c.if-node-lt-LEAVES.false) in
    let l = first-earlier w h in
    rw node (omega (arith, l, c.decreases), formed_less _ (omega (arith, l)) w)

pub returns-then-mentions : goal.returns-then-mentions
returns-then-mentions t c =
    let w = c.requires in
    let node = c.node_at-node.ensures in
    let h = some-operand w (rw node at c.if-node-lt-LEAVES.false) in
    first-mentions w _ h (sym (rw node at c.mentions.ensures) ∙ c.if-mentions.true)

pub returns-then-has_one : goal.returns-then-has_one
returns-then-has_one t c =
    let w = c.requires in
    let node = c.node_at-node.ensures in
    let a = sym (rw node at c.mentions.ensures) ∙ c.if-mentions.false in
    one_mentions-not w _ (has_one _ (rw node at c.has_one.ensures) c.if-has_one.true) a

pub mentions-requires-2 : goal.mentions-requires-2
mentions-requires-2 t c =
    let w = c.requires in
    let node = c.node_at-node.ensures in
    let h = some-operand w (rw node at c.if-node-lt-LEAVES.false) in
    let m = has_more _ h (rw node at c.has_one.ensures) c.if-has_one.false in
    let l = second-earlier w m in
    rw node (omega (arith, l, c.decreases), formed_less _ (omega (arith, l)) w)

pub returns-then-mentions-2 : goal.returns-then-mentions-2
returns-then-mentions-2 t c =
    let w = c.requires in
    let node = c.node_at-node.ensures in
    let h = some-operand w (rw node at c.if-node-lt-LEAVES.false) in
    let m = has_more _ h (rw node at c.has_one.ensures) c.if-has_one.false in
    second-mentions w _ m (sym (rw node at c.mentions-2.ensures) ∙ c.if-mentions-2.true)

pub mentions-requires-then-node-eq-IF : goal.mentions-requires-then-node-eq-IF
mentions-requires-then-node-eq-IF t c =
    let w = c.requires in
    let node = c.node_at-node.ensures in
    let h = some-operand w (rw node at c.if-node-lt-LEAVES.false) in
    let m = has_more _ h (rw node at c.has_one.ensures) c.if-has_one.false in
    let l = third_earlier w m (rw node at c.if-node-eq-IF.true) in
    rw node (omega (arith, l, c.decreases), formed_less _ (omega (arith, l)) w)

pub returns-then-node-eq-IF : goal.returns-then-node-eq-IF
returns-then-node-eq-IF t c =
    let w = c.requires in
    let node = c.node_at-node.ensures in
    let h = some-operand w (rw node at c.if-node-lt-LEAVES.false) in
    let m = has_more _ h (rw node at c.has_one.ensures) c.if-has_one.false in
    let a = sym (rw node at c.mentions.ensures) ∙ c.if-mentions.false in
    let b = sym (rw node at c.mentions-2.ensures) ∙ c.if-mentions-2.false in
    rw node at c.mentions-then-node-eq-IF.ensures ∙ third_mentions w _ m a b (rw node at c.if-node-eq-IF.true)

pub returns : goal.returns
returns t c =
    let w = c.requires in
    let node = c.node_at-node.ensures in
    let h = some-operand w (rw node at c.if-node-lt-LEAVES.false) in
    let m = has_more _ h (rw node at c.has_one.ensures) c.if-has_one.false in
    let a = sym (rw node at c.mentions.ensures) ∙ c.if-mentions.false in
    let b = sym (rw node at c.mentions-2.ensures) ∙ c.if-mentions-2.false in
    several_mention_not w _ m a b (rw node at c.if-node-eq-IF.false)
