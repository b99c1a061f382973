use Rattle.script.specs.Tests.Loops.{Looked}
use Rattle.terms.specs.Terms.{count_in}
use Rattle.words.specs.Words.{is_found}
use Rattle.words.proofs.find_difference.Given as goal

abbrev pub invariant-loop-i : goal.invariant-loop-i
invariant-loop-i l = Looked (is_found l.space l.wanted) (count_in l.space) l.i
