use Rattle.script.specs.Rows.Kinds.{kind_count}
use Rattle.script.specs.Tests.Loops.{Looked}
use Rattle.text.specs.Fields.Words.{is_kind_of}
use Rattle.fields.proofs.words.kind_of.Given as goal

abbrev pub invariant-loop-k : goal.invariant-loop-k
invariant-loop-k l = Looked (is_kind_of l.f) kind_count l.k
