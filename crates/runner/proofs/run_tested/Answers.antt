-- `runner::run_tested` meets its contract: the last node is run, with the entry values as its variables. Assumes nothing.
use Rattle.std.proofs.Common.{arith}
use Rattle.rules.specs.Running.Laws.{Bytes}
use Rattle.runner.specs.Code.Whole.{last_ready, last-does}
use Rattle.runner.proofs.run_tested.Goals as goal

pub run_node-requires : goal.run_node-requires
run_node-requires c =
    let values : Bytes c.args.values.now = record { byte = λ i. omega (arith, c.shared_slice_known-2-1.given i) } in
    let cells : Bytes c.args.cells.now = record { byte = λ i. omega (arith, c.slice_known-1.given i) } in
    last_ready c.requires _ (omega (arith, c.requires.nodes_rooted.least)) values _ _ c.put_front.ensures cells
    (omega (arith, c.environment-2-1.given))

pub returns : goal.returns
returns c =
    let values : Bytes c.args.values.now = record { byte = λ i. omega (arith, c.shared_slice_known-2-1.given i) } in
    rw c.whole.ensures
    (last-does c.requires _ (omega (arith, c.requires.nodes_rooted.least)) values _ _ c.put_front.ensures c.run_node.ensures)
