-- `writer::put_text` meets its contract: a table that passed its tests lends what its lines need. Assumes nothing.
use mathlib.Core.Path.{sym}
use Rattle.std.proofs.Common.{length-take-le}
use native.Mathlib.Omega.{arith}
use Rattle.script.specs.Flat.{table_in}
use Rattle.text.proofs.Output.Passed.{entries-lent, nodes-lent, kinds_known, parts-most, put_parts}
use Rattle.writer.proofs.put_text.Goals as goal

pub slice_bounds-put_entries-end : goal.slice_bounds-put_entries-end
slice_bounds-put_entries-end c =
    let t = c.args.lent.now in
    sym (length-take-le t.entry_count t.entries.now (entries-lent t.table.now t.nodes t.entries.now t.entry_count c.requires))

pub put_entries-after_entries-requires : goal.put_entries-after_entries-requires
put_entries-after_entries-requires c =
    let a = c.args in
    let m = parts-most a.lent.now.table.now a.lent.now.nodes a.lent.now.entries.now a.lent.now.entry_count c.requires in
    omega arith

pub put_nodes-requires : goal.put_nodes-requires
put_nodes-requires c =
    let a = c.args in
    let m = parts-most a.lent.now.table.now a.lent.now.nodes a.lent.now.entries.now a.lent.now.entry_count c.requires in
    record {
      count_in_bounds = nodes-lent a.lent.now.table.now a.lent.now.nodes a.lent.now.entries.now a.lent.now.entry_count c.requires;
      by_index = kinds_known a.lent.now.table.now a.lent.now.nodes a.lent.now.entries.now a.lent.now.entry_count c.requires;
      table_bound = omega arith;
    }

pub returns : goal.returns
returns c =
    let a = c.args in
    put_parts (table_in a.lent.now.table.now a.lent.now.nodes a.lent.now.entries.now a.lent.now.entry_count) c.put_entries-after_entries.ensures c.put_nodes.ensures
