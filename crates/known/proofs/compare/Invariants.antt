use Rattle.std.proofs.Common.{length}
use Rattle.rows.specs.Code.{changes_of}
use Rattle.known.specs.Searching.{Comparing}
use Rattle.known.proofs.compare.Given as goal

abbrev pub invariant-loop-block : goal.invariant-loop-block
invariant-loop-block l = Comparing l.space l.at l.numbers l.guard l.block-end (changes_of l.space l.order l.numbers (length l.order)) l.words l.found.yes l.found.no l.block
