-- `checker::nodes::path_end` meets its contract: the log, the type, and the path after it. Assumes nothing.
use Rattle.std.proofs.Common.{not, ap}
use borrow.Author.Tests.{eqb-true}
use mathlib.Core.Path.{sym, ◌∙◌}
use Rattle.checker.specs.Code.Going.Ends.{path_inconsistent, path-other, path-last, path-more}
use Rattle.checker.proofs.nodes.path_end.Goals as goal

pub returns-then-not-consistent : goal.returns-then-not-consistent
returns-then-not-consistent c = path_inconsistent c.requires c.consistent.ensures (ap not c.if-not-consistent.true)

pub returns-then-not-right_type : goal.returns-then-not-right_type
returns-then-not-right_type c = path-other c.requires c.consistent.ensures (ap not c.if-not-consistent.false) c.right_type.ensures (ap not c.if-not-right_type.true)

pub returns-then-none_left : goal.returns-then-none_left
returns-then-none_left c =
    path-last c.requires c.consistent.ensures (ap not c.if-not-consistent.false) c.right_type.ensures (ap not c.if-not-right_type.false)
    (eqb-true _ 0 (sym c.none_left.ensures ∙ c.if-none_left.true))

pub returns : goal.returns
returns c =
    path-more c.requires c.consistent.ensures (ap not c.if-not-consistent.false) c.right_type.ensures (ap not c.if-not-right_type.false)
    c.resume.ensures
