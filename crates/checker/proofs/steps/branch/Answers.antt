-- `checker::steps::branch` meets its contract: the branch that is taken, or the first one and a fork. Assumes nothing.
use Rattle.script.specs.Answers.Named.{handed_on}
use Rattle.checker.specs.Code.Going.Branching.{stored-lent, stored-space, both_forkable, branched_first, branched_second, branched_none, branched_both}
use Rattle.checker.proofs.steps.branch.Goals as goal

pub fork-requires : goal.fork-requires
fork-requires c =
    let p = c.requires in
    both_forkable p.decidable (rw c.in-Both.is at c.in_ok-choose.was) c.choose.ensures p.space_bound c.wait.ensures p.waitable p.frames_size_in_bounds p.frames_bound

pub assume-requires : goal.assume-requires
assume-requires c =
    let p = c.requires in
    rw c.forget.ensures record {
      space = stored-space p.decidable (rw c.in-Both.is at c.in_ok-choose.was) c.choose.ensures 0;
      space_size_in_bounds = stored-lent p.decidable (rw c.in-Both.is at c.in_ok-choose.was) c.choose.ensures 0;
    }

pub returns-in-First : goal.returns-in-First
returns-in-First c = branched_first c.wait.ensures c.choose.ensures (rw c.in-First.is at c.in_ok-choose.was)

pub returns-in-Second : goal.returns-in-Second
returns-in-Second c = branched_second c.wait.ensures c.choose.ensures (rw c.in-Second.is at c.in_ok-choose.was)

pub returns-in_err-choose : goal.returns-in_err-choose
returns-in_err-choose c =
    rw (handed_on c.from_residual.result c.from_residual.ensures.1) (branched_none c.wait.ensures c.choose.ensures c.in_err-choose.was)

pub returns-in-Both : goal.returns-in-Both
returns-in-Both c =
    branched_both c.wait.ensures c.choose.ensures (rw c.in-Both.is at c.in_ok-choose.was) c.fork.ensures
    (rw c.forget.ensures at c.assume.ensures)
