-- The table that is run is the one that was read, and what is printed changes no cell.
use Rattle.std.proofs.Common.{refl, sym, ap, ◌∙◌}
use Rattle.rules.specs.Running.{Run}
use Rattle.runs.proofs.outcome.try_text.Goals as goal

pub returns-in-Ok : goal.returns-in-Ok
returns-in-Ok g c =
    let r = c.read.ensures in
    rw (sym r.answer-is ∙ c.in-Ok.is, ← r.nodes_are, ← r.entries_are) (ap (λ (x : Run). x.cells) c.run-answer.ensures)

pub returns-in-Err : goal.returns-in-Err
returns-in-Err g c = rw (sym c.read.ensures.answer-is ∙ c.in-Err.is) refl
