-- `writer::put_entry` meets its contract: the word with its tab, the type and the line's end in a row. Assumes nothing.
use native.Mathlib.Omega.{arith}
use lib.ListN.{length-append}
use Rattle.text.specs.Code.Output.Laws.{put_one, put_then}
use Rattle.writer.proofs.put_entry.Goals as goal

pub put_bytes-after_word-requires : goal.put_bytes-after_word-requires
put_bytes-after_word-requires c = omega (arith, c.requires)

pub put_type-after_type-requires : goal.put_type-after_type-requires
put_type-after_type-requires c =
    let p = rw length-append at c.requires in
    omega arith

pub overflow_add-result : goal.overflow_add-result
overflow_add-result c = let r = ((put_then (put_then c.put_bytes-after_word.ensures c.put_type-after_type.ensures) (put_one c.put.ensures))).next-is in omega (arith, c.requires)

pub returns : goal.returns
returns c =
    put_then (put_then c.put_bytes-after_word.ensures c.put_type-after_type.ensures) (put_one c.put.ensures)
