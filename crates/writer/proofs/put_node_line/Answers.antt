-- `writer::put_node_line` meets its contract: the word, the operands that the kind takes and the line's end in a row. Assumes nothing.
use native.Mathlib.Omega.{arith}
use Rattle.text.specs.Code.Output.{Put}
use Rattle.text.specs.Writing.{node_text}
use Rattle.text.specs.Code.Output.Laws.{put_one, put_then}
use Rattle.text.specs.Code.Output.Lines.{node-parts, node-length}
use Rattle.std.proofs.Common.{◌+◌}
use Rattle.writer.proofs.put_node_line.Goals as goal

pub put_word-after_word-requires : goal.put_word-after_word-requires
put_word-after_word-requires c =
    record {
      kind_lt_kind_count = c.requires.kind_lt_kind_count;
      kind_bound = omega (arith, node-length c.args.n c.requires.kind_lt_kind_count c.operand_count-count.ensures);
    }

pub put_operand-after_a-requires : goal.put_operand-after_a-requires
put_operand-after_a-requires c =
    let l = node-length c.args.n c.requires.kind_lt_kind_count c.operand_count-count.ensures in
    omega (arith, c.requires.n_bound)

pub put_operand-after_b-requires : goal.put_operand-after_b-requires
put_operand-after_b-requires c =
    let l = node-length c.args.n c.requires.kind_lt_kind_count c.operand_count-count.ensures in
    omega (arith, c.requires.n_bound)

pub put_operand-after_c-requires : goal.put_operand-after_c-requires
put_operand-after_c-requires c =
    let l = node-length c.args.n c.requires.kind_lt_kind_count c.operand_count-count.ensures in
    omega (arith, c.requires.n_bound)

pub overflow_add-result : goal.overflow_add-result
overflow_add-result c =
    let word = c.put_word-after_word.ensures in
    let a = c.put_operand-after_a.ensures in
    let b = c.put_operand-after_b.ensures in
    let d = c.put_operand-after_c.ensures in
    let r : Put (node_text c.args.n) c.args.at c.args.out.now (c.put_operand-after_c.result + 1) c.put.new.out =
    rw (node-parts c.args.n c.requires.kind_lt_kind_count c.operand_count-count.ensures)
    (put_then (put_then (put_then (put_then word a) b) d) (put_one c.put.ensures)) in
    let e = r.next-is in
    omega (arith, c.requires.n_bound)

pub returns : goal.returns
returns c =
    let word = c.put_word-after_word.ensures in
    let a = c.put_operand-after_a.ensures in
    let b = c.put_operand-after_b.ensures in
    let d = c.put_operand-after_c.ensures in
    rw (node-parts c.args.n c.requires.kind_lt_kind_count c.operand_count-count.ensures)
    (put_then (put_then (put_then (put_then word a) b) d) (put_one c.put.ensures))
