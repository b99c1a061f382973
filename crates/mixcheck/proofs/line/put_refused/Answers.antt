-- The word with its tab, the number, the place and the line's end in a row.
use Rattle.text.specs.Code.Output.Laws.{put_one, put_then}
use Rattle.mixcheck.specs.Line.Laws.{put_refusal}
use Rattle.mixcheck.proofs.line.put_refused.Goals as goal

pub returns : goal.returns
returns c =
    put_refusal c.args.why c.number.ensures c.place.ensures
    (put_then (put_then (put_then c.put_bytes-after_word.ensures c.put_number-after_number.ensures) c.put_place-after_place.ensures)
    (put_one c.put.ensures))
