use Rattle.std.proofs.Common.{ap, ◌∙◌}
use Rattle.std.specs.Prelude.{Ok}
use Rattle.trial.specs.Trials.{Malformed, tried, no_turn, a_turn, all_tried, malformed, failed}
use Rattle.trial.proofs.try_all.Goals as goal
use Rattle.trial.proofs.try_all.Goals.{in_default-via-in-Some+else-at-next, in_default-via-in_default}

pub loop-at-init : goal.loop-at-init
loop-at-init g c = no_turn

pub loop-at-preserved : goal.loop-at-preserved
loop-at-preserved g c =
    a_turn c.loop-at.invariant c.loop-at-test.true (tried g.F.Fn c.args.try_at c.try_at.ensures (c.in_ok-next.was ∙ ap Ok c.in-Some.is)) c.if-at-next.true

pub returns-in_err-next : goal.returns-in_err-next
returns-in_err-next g c =
    failed c.loop-at.invariant c.loop-at-test.true (tried g.F.Fn c.args.try_at c.try_at.ensures c.in_err-next.was) c.from_residual.ensures.0

pub returns-in_default : goal.returns-in_default
returns-in_default g c =
    let last : Malformed c.loop-at.at c.in_ok-next.field-0 =
    elim c.in_default.branch [ in_default-via-in-Some+else-at-next w ↦ rw w.in-Some.is w.if-at-next.false | in_default-via-in_default w ↦ rw w.in_default.is tt ] in
    malformed c.loop-at.invariant c.loop-at-test.true (tried g.F.Fn c.args.try_at c.try_at.ensures c.in_ok-next.was) last

pub returns : goal.returns
returns g c = all_tried c.loop-at.invariant c.loop-at-test.false
