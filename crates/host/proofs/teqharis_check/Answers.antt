-- `host::teqharis_check` meets its contract: the answer of `check_text` as a number. Assumes nothing.
use mathlib.Core.Path.{ap, ◌∙◌}
use Rattle.answers.specs.Answers.{answer_of_check}
use Rattle.host.proofs.teqharis_check.Goals as goal

pub returns : goal.returns
returns c = c.check_answer.ensures ∙ ap answer_of_check c.check_text.ensures
