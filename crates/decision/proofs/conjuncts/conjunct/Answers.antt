-- `decision::conjuncts::conjunct` meets its contract: what is found from the row reached on is what is found of the condition. Assumes nothing.
use Rattle.std.proofs.Common.{sym, ◌∙◌}
use Rattle.decision.specs.Conjuncts.{walking, walking-none, walking-found, walking-up, walking_on}
use Rattle.decision.proofs.conjuncts.conjunct.Goals as goal

pub loop-decision-init : goal.loop-decision-init
loop-decision-init c = let a = c.args in walking a.space.now a.condition a.guard c.requires.1

pub returns-in_err-decision : goal.returns-in_err-decision
returns-in_err-decision c =
    c.from_residual.ensures ∙ walking-none c.loop-decision.invariant c.row_at-row.result c.row_at-row.ensures (sym c.in_err-decision.was ∙ c.link.ensures)

pub returns-then-row-guard : goal.returns-then-row-guard
returns-then-row-guard c =
    walking-found c.loop-decision.invariant c.row_at-row.result c.row_at-row.ensures c.in_ok-decision.decision (sym c.in_ok-decision.was ∙ c.link.ensures)
    c.if-row-guard.true

pub returns-then-i-row : goal.returns-then-i-row
returns-then-i-row c =
    walking-up c.loop-decision.invariant c.row_at-row.result c.row_at-row.ensures c.in_ok-decision.decision (sym c.in_ok-decision.was ∙ c.link.ensures)
    c.if-row-guard.false c.if-i-row.true

pub loop-decision-preserved : goal.loop-decision-preserved
loop-decision-preserved c =
    walking_on c.loop-decision.invariant c.row_at-row.result c.row_at-row.ensures c.in_ok-decision.decision (sym c.in_ok-decision.was ∙ c.link.ensures)
    c.if-row-guard.false c.if-i-row.false
