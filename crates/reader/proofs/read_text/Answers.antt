-- `reader::read_text` meets its contract. Assumes nothing.
use Rattle.text.specs.Code.Steps.Whole.{holds-refused, few-nodes, few-entries, too_long, not_too_long}
use Rattle.reader.proofs.read_text.Goals as goal

pub returns-then-table-lt-NODES : goal.returns-then-table-lt-NODES
returns-then-table-lt-NODES c =
    let a = c.args in
    holds-refused _ _ a.table.now a.entries.now (few-nodes a.text.now a.table.now a.entries.now c.if-table-lt-NODES.true)

pub returns-then-entries-lt-ENTRIES : goal.returns-then-entries-lt-ENTRIES
returns-then-entries-lt-ENTRIES c =
    let a = c.args in
    holds-refused _ _ a.table.now a.entries.now (few-entries a.text.now a.table.now a.entries.now c.if-table-lt-NODES.false c.if-entries-lt-ENTRIES.true)

pub returns-then-text-gt-BYTES : goal.returns-then-text-gt-BYTES
returns-then-text-gt-BYTES c =
    let a = c.args in
    holds-refused _ _ a.table.now a.entries.now (too_long a.text.now a.table.now a.entries.now c.if-table-lt-NODES.false c.if-entries-lt-ENTRIES.false c.if-text-gt-BYTES.true)

pub returns : goal.returns
returns c =
    let a = c.args in
    rw (not_too_long a.text.now a.table.now a.entries.now c.if-table-lt-NODES.false c.if-entries-lt-ENTRIES.false c.if-text-gt-BYTES.false) c.read_lines.ensures
