-- `symbolic::both` meets its contract: a row of two values of the type wanted. Assumes nothing.
use Rattle.workspace.specs.Rules.{both-wrong, both-made}
use Rattle.symbolic.proofs.both.Goals as goal
use Rattle.symbolic.proofs.both.Goals.{else-t-wanted-via-then-t-wanted+else-u-wanted, else-t-wanted-via-else-t-wanted}

pub returns-then-u-wanted : goal.returns-then-u-wanted
returns-then-u-wanted c = both-made c.if-t-wanted.true c.if-u-wanted.true c.push.ensures.value c.push.ensures.space_after

pub returns : goal.returns
returns c =
    both-wrong λ a b. elim c.else-t-wanted.branch [
      | else-t-wanted-via-then-t-wanted+else-u-wanted w ↦ w.if-u-wanted.false b
      | else-t-wanted-via-else-t-wanted w ↦ w.if-t-wanted.false a
    ]
