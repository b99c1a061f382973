-- `known::number_known` meets its contract: the atoms passed have their numbers. Assumes nothing.
use Rattle.rows.specs.Code.Leaves.{recalling, recalling_on}
use Rattle.known.proofs.number_known.Goals as goal

pub loop-j-init : goal.loop-j-init
loop-j-init c = let a = c.args in recalling a.space.now a.at a.numbers.now _

pub loop-j-preserved : goal.loop-j-preserved
loop-j-preserved c = recalling_on c.loop-j.invariant c.loop-j-test.true
