-- `symbolic::typed_result` meets its contract: a consistent log, of which no write counts then, and a fresh symbol. Assumes nothing.
use Rattle.workspace.specs.Rules.Memory.{block_stopped, block_made}
use Rattle.symbolic.proofs.typed_result.Goals as goal

pub returns-then-not-consistent : goal.returns-then-not-consistent
returns-then-not-consistent c = block_stopped c.args.n c.args.t c.consistent.ensures (c.if-not-consistent.true)

pub returns : goal.returns
returns c =
    block_made c.args.n c.args.t c.consistent.ensures c.requires (c.if-not-consistent.false)
    (rw c.forget.ensures at c.fresh.ensures)
