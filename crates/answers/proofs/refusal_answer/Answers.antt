-- `answers::refusal_answer` meets its contract: the number, and the place plus 1. Assumes nothing.
use Rattle.answers.specs.Code.Packing.{refusal-nowhere, refusal-at}
use Rattle.answers.proofs.refusal_answer.Goals as goal

pub returns-in-None : goal.returns-in-None
returns-in-None c = refusal-nowhere c.args.why c.number-number.ensures c.place.ensures c.in-None.is c.pack.ensures

pub returns-in-Some : goal.returns-in-Some
returns-in-Some c = refusal-at c.args.why c.number-number.ensures c.place.ensures c.in-Some.is c.pack-in-Some.ensures
