-- `writer::put_operand` meets its contract: nothing, or a tab and the number. Assumes nothing.
use native.Mathlib.Omega.{arith}
use Rattle.text.specs.Code.Output.Laws.{put_none, put_one, put_then}
use Rattle.writer.proofs.put_operand.Goals as goal

pub overflow_add-at : goal.overflow_add-at
overflow_add-at c = let p = rw c.if-wanted.true at c.requires in omega arith

pub put_number-requires : goal.put_number-requires
put_number-requires c = let p = rw c.if-wanted.true at c.requires in omega arith

pub returns-then-wanted : goal.returns-then-wanted
returns-then-wanted c = rw c.if-wanted.true (put_then (put_one c.put.ensures) c.put_number.ensures)

pub returns : goal.returns
returns c = rw c.if-wanted.false (put_none _ _)
