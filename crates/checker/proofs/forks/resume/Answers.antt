-- `checker::forks::resume` meets its contract: the last fork's numbers and variables, and the condition without its guard. Assumes nothing.
use native.Mathlib.Omega.{arith}
use Rattle.checker.specs.Code.Going.Resuming.{rewound_restorable, guard-space, guard-lent, branch-node, resumed}
use Rattle.checker.proofs.forks.resume.Goals as goal

pub restore-requires : goal.restore-requires
restore-requires c = rewound_restorable c.requires c.rewind.ensures

pub bounds-frames-at : goal.bounds-frames-at
bounds-frames-at c =
    let i = rewound_restorable c.requires c.rewind.ensures in
    omega (arith, i.inside, i.framed)

pub assume-requires : goal.assume-requires
assume-requires c =
    record {
      space = guard-space c.requires c.rewind.ensures c.restore.ensures;
      space_size_in_bounds = guard-lent c.requires c.rewind.ensures c.restore.ensures;
    }

pub bounds-frames-at-2 : goal.bounds-frames-at-2
bounds-frames-at-2 c =
    let i = rewound_restorable c.requires c.rewind.ensures in
    omega (arith, i.inside, i.framed)

pub node_at-requires : goal.node_at-requires
node_at-requires c =
    branch-node c.requires c.rewind.ensures c.restore.ensures

pub returns : goal.returns
returns c =
    rw c.node_at.ensures
    (resumed c.requires c.rewind.ensures c.restore.ensures c.assume.ensures)
