-- `host::teqharis_run` meets its contract: the answer of `run_text` as a number, in which the used count has room. Assumes nothing.
use Rattle.host.specs.Code.Packing.{run_answered, run_few}
use Rattle.host.proofs.teqharis_run.Goals as goal

pub run_answer-requires : goal.run_answer-requires
run_answer-requires c = run_few _ _ _ _ c.run_text.ensures

pub returns : goal.returns
returns c = run_answered c.run_text.ensures c.run_answer.ensures
