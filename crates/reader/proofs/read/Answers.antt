-- `reader::read` meets its contract. Assumes nothing.
use Rattle.text.specs.Code.Steps.Whole.{left_so}
use Rattle.reader.proofs.read.Goals as goal

pub clear_nodes-requires : goal.clear_nodes-requires
clear_nodes-requires c = let h = rw c.in-Ok.is at c.read_text.ensures in h.nodes-room

pub clear_entries-requires : goal.clear_entries-requires
clear_entries-requires c = let h = rw c.in-Ok.is at c.read_text.ensures in h.entries-room

pub returns-in-Ok : goal.returns-in-Ok
returns-in-Ok c =
    let a = c.args in
    let h = rw c.in-Ok.is at c.read_text.ensures in
    left_so a.text.now a.table.now a.entries.now h c.clear_nodes.ensures c.clear_entries.ensures

pub returns-in-Err : goal.returns-in-Err
returns-in-Err c =
    let a = c.args in
    let h = rw c.in-Err.is at c.read_text.ensures in
    left_so a.text.now a.table.now a.entries.now h c.clear_nodes-in-Err.ensures c.clear_entries-in-Err.ensures
