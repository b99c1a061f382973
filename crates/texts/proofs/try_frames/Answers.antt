-- Each call of the closure is a trial of a frame.
use Rattle.std.proofs.Common.{rules}
use Rattle.texts.specs.Frames.Laws.{tried-ok, tried-err}
use Rattle.texts.proofs.try_frames.Goals as goal

pub returns-clause-ok : goal.returns-clause-ok
returns-clause-ok g c = tried-ok _ _ c.args.input.now (λ l m at o t. search rules) (λ l m at e t. search rules) _ _ _ c.try_all.ensures

pub returns-clause-err : goal.returns-clause-err
returns-clause-err g c = tried-err _ _ c.args.input.now (λ l m at o t. search rules) (λ l m at e t. search rules) _ _ _ c.try_all.ensures
