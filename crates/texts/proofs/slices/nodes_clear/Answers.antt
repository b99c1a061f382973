use Rattle.std.proofs.Common.{arith}
use Rattle.std.proofs.lemmas.Grind.{common_steps}
use Rattle.script.specs.Flat.Laws.{length-nodes_in}
use Rattle.texts.proofs.slices.nodes_clear.Goals as goal

pub returns : goal.returns
returns c = grind (arith, common_steps, length-nodes_in)
