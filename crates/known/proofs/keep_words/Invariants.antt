use Rattle.std.proofs.Common.{length}
use Rattle.rows.specs.Code.Leaves.{Storing}
use Rattle.known.proofs.keep_words.Given as goal

abbrev pub invariant-loop-block : goal.invariant-loop-block
invariant-loop-block l = Storing l.initial.space l.at l.truths (length l.truths) l.space l.block
