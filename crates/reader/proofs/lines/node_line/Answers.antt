-- `reader::lines::node_line` meets its contract. Each operand goes on from where the one before it ended. Assumes nothing.
use borrow.Author.Rules.{rules}
use mathlib.Core.Path.{sym, ◌∙◌}
use Prim.Native.Nat.{◌≤◌}
use Rattle.script.specs.Rows.Laws.{operands-most}
use Rattle.text.specs.Code.Scan.Lines.{starts-within}
use Rattle.text.specs.Code.Scan.Nodes.{node_made, reach_start, reach_next, reach_unwanted, reach_bad, reach_lf, reach_no_lf}
use Rattle.reader.proofs.lines.node_line.Goals as goal

pub returns-in_err-a : goal.returns-in_err-a
returns-in_err-a c =
    let a = c.args in
    let n = c.operand_count-count.result in
    let m = c.largest-limit.result in
    let r0 = reach_start a.text.now a.kind a.at n m c.requires.kind_lt_kind_count c.requires.at_in_bounds c.requires.text_value
    c.operand_count-count.ensures c.largest-limit.ensures in
    c.from_residual.ensures ∙ sym (reach_bad a.text.now a.kind a.at n m r0 (sym c.operand_at.ensures ∙ c.in_err-a.was))

pub operand_at-requires-2 : goal.operand_at-requires-2
operand_at-requires-2 c =
    let a = c.args in
    let n = c.operand_count-count.result in
    let m = c.largest-limit.result in
    let r0 = reach_start a.text.now a.kind a.at n m c.requires.kind_lt_kind_count c.requires.at_in_bounds c.requires.text_value
    c.operand_count-count.ensures c.largest-limit.ensures in
    let e1 = sym c.operand_at.ensures ∙ c.in_ok-a.was in
    let r1 = reach_next a.text.now a.kind a.at n m r0 c.in_ok-a.a c.in_ok-a.after_a e1 in
    r1.most

pub returns-in_err-b : goal.returns-in_err-b
returns-in_err-b c =
    let a = c.args in
    let n = c.operand_count-count.result in
    let m = c.largest-limit.result in
    let r0 = reach_start a.text.now a.kind a.at n m c.requires.kind_lt_kind_count c.requires.at_in_bounds c.requires.text_value
    c.operand_count-count.ensures c.largest-limit.ensures in
    let e1 = sym c.operand_at.ensures ∙ c.in_ok-a.was in
    let r1 = reach_next a.text.now a.kind a.at n m r0 c.in_ok-a.a c.in_ok-a.after_a e1 in
    c.from_residual-in_err-b.ensures ∙ sym (reach_bad a.text.now a.kind a.at n m r1 (sym c.operand_at-2.ensures ∙ c.in_err-b.was))

pub operand_at-requires-3 : goal.operand_at-requires-3
operand_at-requires-3 c =
    let a = c.args in
    let n = c.operand_count-count.result in
    let m = c.largest-limit.result in
    let r0 = reach_start a.text.now a.kind a.at n m c.requires.kind_lt_kind_count c.requires.at_in_bounds c.requires.text_value
    c.operand_count-count.ensures c.largest-limit.ensures in
    let e1 = sym c.operand_at.ensures ∙ c.in_ok-a.was in
    let r1 = reach_next a.text.now a.kind a.at n m r0 c.in_ok-a.a c.in_ok-a.after_a e1 in
    let e2 = sym c.operand_at-2.ensures ∙ c.in_ok-b.was in
    let r2 = reach_next a.text.now a.kind a.at n m r1 c.in_ok-b.b c.in_ok-b.after_b e2 in
    r2.most

pub returns-in_err-c : goal.returns-in_err-c
returns-in_err-c c =
    let a = c.args in
    let n = c.operand_count-count.result in
    let m = c.largest-limit.result in
    let r0 = reach_start a.text.now a.kind a.at n m c.requires.kind_lt_kind_count c.requires.at_in_bounds c.requires.text_value
    c.operand_count-count.ensures c.largest-limit.ensures in
    let e1 = sym c.operand_at.ensures ∙ c.in_ok-a.was in
    let r1 = reach_next a.text.now a.kind a.at n m r0 c.in_ok-a.a c.in_ok-a.after_a e1 in
    let e2 = sym c.operand_at-2.ensures ∙ c.in_ok-b.was in
    let r2 = reach_next a.text.now a.kind a.at n m r1 c.in_ok-b.b c.in_ok-b.after_b e2 in
    c.from_residual-in_err-c.ensures ∙ sym (reach_bad a.text.now a.kind a.at n m r2 (sym c.operand_at-3.ensures ∙ c.in_err-c.was))

pub returns-then-not-byte_is : goal.returns-then-not-byte_is
returns-then-not-byte_is c =
    let a = c.args in
    let n = c.operand_count-count.result in
    let m = c.largest-limit.result in
    let r0 = reach_start a.text.now a.kind a.at n m c.requires.kind_lt_kind_count c.requires.at_in_bounds c.requires.text_value
    c.operand_count-count.ensures c.largest-limit.ensures in
    let e1 = sym c.operand_at.ensures ∙ c.in_ok-a.was in
    let r1 = reach_next a.text.now a.kind a.at n m r0 c.in_ok-a.a c.in_ok-a.after_a e1 in
    let e2 = sym c.operand_at-2.ensures ∙ c.in_ok-b.was in
    let r2 = reach_next a.text.now a.kind a.at n m r1 c.in_ok-b.b c.in_ok-b.after_b e2 in
    let e3 = sym c.operand_at-3.ensures ∙ c.in_ok-c.was in
    let r3 = reach_next a.text.now a.kind a.at n m r2 c.in_ok-c.c c.in_ok-c.after_c e3 in
    let l : n ≤ 3 = rw c.operand_count-count.ensures (operands-most a.kind) in
    sym (reach_no_lf a.text.now a.kind a.at n m r3 l (sym c.byte_is.ensures ∙ c.if-not-byte_is.true))

pub overflow_add-result : goal.overflow_add-result
overflow_add-result c =
    let h = starts-within 10 c.args.text.now c.in_ok-c.after_c (sym c.byte_is.ensures ∙ c.if-not-byte_is.false) in
    search rules

pub returns : goal.returns
returns c =
    let a = c.args in
    let n = c.operand_count-count.result in
    let m = c.largest-limit.result in
    let r0 = reach_start a.text.now a.kind a.at n m c.requires.kind_lt_kind_count c.requires.at_in_bounds c.requires.text_value
    c.operand_count-count.ensures c.largest-limit.ensures in
    let e1 = sym c.operand_at.ensures ∙ c.in_ok-a.was in
    let r1 = reach_next a.text.now a.kind a.at n m r0 c.in_ok-a.a c.in_ok-a.after_a e1 in
    let e2 = sym c.operand_at-2.ensures ∙ c.in_ok-b.was in
    let r2 = reach_next a.text.now a.kind a.at n m r1 c.in_ok-b.b c.in_ok-b.after_b e2 in
    let e3 = sym c.operand_at-3.ensures ∙ c.in_ok-c.was in
    let r3 = reach_next a.text.now a.kind a.at n m r2 c.in_ok-c.c c.in_ok-c.after_c e3 in
    let l : n ≤ 3 = rw c.operand_count-count.ensures (operands-most a.kind) in
    let u1 = reach_unwanted a.text.now a.kind a.at n m r0 c.in_ok-a.a c.in_ok-a.after_a e1 in
    let u2 = reach_unwanted a.text.now a.kind a.at n m r1 c.in_ok-b.b c.in_ok-b.after_b e2 in
    let u3 = reach_unwanted a.text.now a.kind a.at n m r2 c.in_ok-c.c c.in_ok-c.after_c e3 in
    let f = reach_lf a.text.now a.kind a.at n m r3 l (sym c.byte_is.ensures ∙ c.if-not-byte_is.false) in
    sym (f ∙ node_made a.kind n c.in_ok-a.a c.in_ok-b.b c.in_ok-c.c c.in_ok-c.after_c l u1 u2 u3)
