-- `writer::write_passed` meets its contract: the text where it fits, else the bytes as they were. Assumes nothing.
use mathlib.Core.Path.{sym, ◌∙◌}
use Rattle.script.specs.Flat.{table_in}
use Rattle.text.proofs.Output.Passed.{wrote, short}
use Rattle.writer.proofs.write_passed.Goals as goal

pub returns-then-fits : goal.returns-then-fits
returns-then-fits c =
    let a = c.args in
    let f = c.fits.ensures in
    wrote (table_in a.lent.now.table.now a.lent.now.nodes a.lent.now.entries.now a.lent.now.entry_count) c.requires (sym f.value ∙ c.if-fits.true)
    (rw f.out_unchanged at c.put_text-length.ensures)

pub returns : goal.returns
returns c =
    let a = c.args in
    let f = c.fits.ensures in
    rw f.out_unchanged (short (table_in a.lent.now.table.now a.lent.now.nodes a.lent.now.entries.now a.lent.now.entry_count) c.requires (sym f.value ∙ c.if-fits.false))
