-- The answer for the table that was copied is the answer for the lent one.
use Rattle.std.proofs.Common.{ℕ, subst, replicate}
use Rattle.std.proofs.lemmas.List.{length-replicate}
use Rattle.script.specs.Flat.{table-over}
use Rattle.script.specs.Table.{Table}
use Rattle.copies.specs.Copies.{flat_size}
use Rattle.records.specs.Code.Whole.{check-copied}
use Rattle.records.specs.Records.{Checks}
use Rattle.records.proofs.check.Goals as goal

pub returns : goal.returns
returns c =
    let t = c.args.lent.now in
    let o = c.over.ensures in
    let e = table-over c.over.result o.table o.nodes o.entries o.entry_count in
    check-copied t.table.now (replicate flat_size 0) c.copy_out-count.result c.copy_out-count.new.flat (length-replicate {A = ℕ} flat_size 0) c.copy_out-count.ensures
    t.nodes t.entries.now t.entry_count c.check.result (subst (λ (t : Table). Checks t c.check.result) e c.check.ensures)
