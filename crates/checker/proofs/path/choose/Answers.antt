-- `checker::path::choose` meets its contract: the branch that the decision allows, or both. Assumes nothing.
use Rattle.workspace.specs.Paths.Decisions.{chooses_as, chooses_no_truth, chooses_many, chooses_both, chooses_true, chooses_false}
use Rattle.checker.proofs.path.choose.Goals as goal

pub returns-then-t-ne1 : goal.returns-then-t-ne1
returns-then-t-ne1 c = let a = c.args in chooses_no_truth a.n a.v.0 a.v.1 a.space.now c.if-t-ne1.true

pub returns-in-TooMany : goal.returns-in-TooMany
returns-in-TooMany c =
    chooses_many c.requires.room c.decide.ensures c.args.n c.args.v.0 c.if-t-ne1.false c.in-TooMany.is

pub returns-in-Both : goal.returns-in-Both
returns-in-Both c =
    chooses_both c.requires.room c.decide.ensures c.args.n c.args.v.0 c.if-t-ne1.false c.in-Both.is

pub returns-in-OnlyTrue : goal.returns-in-OnlyTrue
returns-in-OnlyTrue c =
    chooses_as c.assume.ensures
    (chooses_true c.requires.room c.decide.ensures c.args.n c.args.v.0 c.if-t-ne1.false
    c.in-OnlyTrue.is)

pub returns-in-OnlyFalse : goal.returns-in-OnlyFalse
returns-in-OnlyFalse c =
    chooses_as c.assume-in-OnlyFalse.ensures
    (chooses_false c.requires.room c.decide.ensures c.args.n c.args.v.0 c.if-t-ne1.false
    c.in-OnlyFalse.is)
