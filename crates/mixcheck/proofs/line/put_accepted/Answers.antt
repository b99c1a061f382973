-- The word with its tab, the type and the line's end in a row.
use Rattle.text.specs.Code.Output.Laws.{put_one, put_then}
use Rattle.mixcheck.proofs.line.put_accepted.Goals as goal

pub returns : goal.returns
returns c = put_then (put_then c.put_bytes-after_word.ensures c.put_type-after_type.ensures) (put_one c.put.ensures)
