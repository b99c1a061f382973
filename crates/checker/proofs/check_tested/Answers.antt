-- `checker::check_tested` meets its contract: the last node is checked, with the entries' types as its variables. Assumes nothing.
use mathlib.Core.Path.{sym, ◌∙◌}
use lib.ListN.{take}
use Rattle.std.proofs.Common.{length-take-le, take_all}
use native.Mathlib.Omega.{arith}
use Rattle.script.specs.Table.Laws.{passes}
use Rattle.checker.specs.Code.Whole.{root_checkable, root_judged}
use Rattle.checker.proofs.check_tested.Goals as goal

pub slice_bounds-entry_types-end : goal.slice_bounds-entry_types-end
slice_bounds-entry_types-end c =
    let t = c.args.lent.now in
    let p = passes _ c.requires in
    sym (length-take-le t.entry_count t.entries.now (omega (arith, p.entries_most, p.lent_entries)))

pub entry_types-requires : goal.entry_types-requires
entry_types-requires c =
    let t = c.args.lent.now in
    let p = passes _ c.requires in
    let k = length-take-le t.entry_count t.entries.now (omega (arith, p.entries_most, p.lent_entries)) in
    omega (arith, p.entries_most)

pub overflow_sub-lent : goal.overflow_sub-lent
overflow_sub-lent c = (passes _ c.requires).nodes_least

pub overflow_cast-lent : goal.overflow_cast-lent
overflow_cast-lent c =
    let p = passes _ c.requires in
    omega (arith, p.nodes_most)

pub check_node-requires : goal.check_node-requires
check_node-requires c =
    let a = c.args in
    let p = passes _ c.requires in
    let e = c.entry_types.ensures in
    root_checkable a.lent.now.table.now a.lent.now.nodes a.lent.now.entries.now a.lent.now.entry_count c.requires _ (omega (arith, p.nodes_least)) _ (omega (arith, e.same))

pub returns : goal.returns
returns c =
    let a = c.args in
    let p = passes _ c.requires in
    let e = c.entry_types.ensures in
    let t = a.lent.now in
    let k = length-take-le t.entry_count t.entries.now (omega (arith, p.entries_most, p.lent_entries)) in
    let types = rw k at e.types ∙ take_all t.entry_count (take t.entry_count t.entries.now) (omega arith) in
    root_judged a.lent.now.table.now a.lent.now.nodes a.lent.now.entries.now a.lent.now.entry_count c.requires _ (omega (arith, p.nodes_least)) _ a.limit types c.check_node.ensures
