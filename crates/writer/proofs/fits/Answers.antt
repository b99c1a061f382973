-- `writer::fits` meets its contract: every text is shorter than the limit, and writing into no bytes leaves them. Assumes nothing.
use mathlib.Core.Path.{refl, sym}
use native.Mathlib.Nat.{zero-add}
use native.Mathlib.Omega.{arith}
use Rattle.script.specs.Flat.{table_in}
use Rattle.text.specs.Code.Output.{text_in}
use Rattle.text.specs.Code.Output.Laws.{put_empty}
use Rattle.text.specs.SameTable.{text-most}
use Rattle.text.specs.Writing.{long_enough}
use Rattle.text.proofs.Writing.Laws.{long-enough}
use Rattle.writer.proofs.fits.Goals as goal

pub returns-then-out-ge-BYTES : goal.returns-then-out-ge-BYTES
returns-then-out-ge-BYTES c =
    let a = c.args in
    let t = table_in a.lent.now.table.now a.lent.now.nodes a.lent.now.entries.now a.lent.now.entry_count in
    let m = text-most t c.requires in
    record {
      value = sym (long-enough a.out.now (text_in t) (omega arith));
      out_unchanged = refl;
    }

pub returns : goal.returns
unfolding long_enough
returns c =
    let p = c.put_text-length.ensures in
    rw (put_empty p, p.next-is, zero-add) record {
      value = refl;
      out_unchanged = refl;
    }
