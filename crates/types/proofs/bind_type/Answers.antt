-- `types::bind_type` meets its contract: a `let` puts the type behind the last variable's, every other kind changes nothing. Assumes nothing.
use Rattle.workspace.specs.Rules.Types.{bind-type_let, bind-type-other}
use Rattle.types.proofs.bind_type.Goals as goal

pub returns-then-node-eq-LET : goal.returns-then-node-eq-LET
returns-then-node-eq-LET c =
    bind-type_let c.args.node c.args.depth c.args.t c.args.space.now c.requires.depth_lt_symbol_limit c.requires.variables_end_in_bounds c.if-node-eq-LET.true

pub returns : goal.returns
returns c =
    bind-type-other c.args.node c.args.depth c.args.t c.args.space.now c.requires.depth_lt_symbol_limit c.requires.variables_end_in_bounds c.if-node-eq-LET.false
