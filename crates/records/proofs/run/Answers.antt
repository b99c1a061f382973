-- The run of the table that was copied is the run of the lent one.
use Rattle.std.proofs.Common.{ℕ, subst, replicate}
use Rattle.std.proofs.lemmas.List.{length-replicate}
use Rattle.script.specs.Flat.{table-over}
use Rattle.script.specs.Table.{Table}
use Rattle.copies.specs.Copies.{flat_size}
use Rattle.records.specs.Code.Whole.{run_copied}
use Rattle.records.specs.Records.{Runs}
use Rattle.records.proofs.run.Goals as goal

pub returns : goal.returns
returns c =
    let a = c.args in
    let t = a.lent.now in
    let o = c.over.ensures in
    let e = table-over c.over.result o.table o.nodes o.entries o.entry_count in
    run_copied t.table.now (replicate flat_size 0) c.copy_out-count.result c.copy_out-count.new.flat (length-replicate {A = ℕ} flat_size 0) c.copy_out-count.ensures
    t.nodes t.entries.now t.entry_count a.values.now a.cells.now a.used c.run.result c.run.new.cells
    (subst (λ (t : Table). Runs t a.values.now a.cells.now a.used c.run.result c.run.new.cells) e c.run.ensures)
