-- The answer for the table that was copied is the answer for the lent one.
use Rattle.std.proofs.Common.{ℕ, subst, replicate}
use Rattle.std.proofs.lemmas.List.{length-replicate}
use Rattle.script.specs.Flat.{table-over}
use Rattle.script.specs.Table.{Table}
use Rattle.copies.specs.Copies.{flat_size}
use Rattle.record_texts.specs.Code.Whole.{write-copied}
use Rattle.record_texts.specs.Texts.{Writes}
use Rattle.record_texts.proofs.write.Goals as goal

pub returns : goal.returns
returns c =
    let a = c.args in
    let t = a.lent.now in
    let o = c.over.ensures in
    let e = table-over c.over.result o.table o.nodes o.entries o.entry_count in
    write-copied t.table.now (replicate flat_size 0) c.copy_out-count.result c.copy_out-count.new.flat (length-replicate {A = ℕ} flat_size 0) c.copy_out-count.ensures
    t.nodes t.entries.now t.entry_count a.out.now c.write.result c.write.new.out
    (subst (λ (t : Table). Writes t a.out.now c.write.result c.write.new.out) e c.write.ensures)
