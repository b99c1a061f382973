-- `symbolic::equality` meets its contract: a row for the equality of two values of one type. Assumes nothing.
use native.Mathlib.Omega.{arith}
use Rattle.workspace.specs.Rules.Operators.{equality-wrong, truths-equal, words-equal, references-equal}
use Rattle.symbolic.proofs.equality.Goals as goal

pub returns-then-t-u : goal.returns-then-t-u
returns-then-t-u c = equality-wrong c.args.n c.args.v.0 c.args.v.1 c.args.w.0 c.args.w.1 c.if-t-u.true

pub returns-in-0 : goal.returns-in-0
returns-in-0 c =
    words-equal c.args.n c.args.v.0 c.args.v.1 c.args.w.0 c.args.w.1 c.requires c.in-0.is
    c.if-t-u.false c.equal_words.ensures.value c.equal_words.ensures.space_after

pub returns-in-1 : goal.returns-in-1
returns-in-1 c =
    truths-equal c.args.n c.args.v.0 c.args.v.1 c.args.w.0 c.args.w.1 c.requires.room
    c.in-1.is c.if-t-u.false c.push.ensures.value c.push.ensures.space_after

pub returns-in_default : goal.returns-in_default
returns-in_default c =
    let d = c.in_default.in_default-own.rest in
    references-equal c.args.n c.args.v.0 c.args.v.1 c.args.w.0 c.args.w.1 c.requires
    (omega (arith, d.0.1, d.1)) c.if-t-u.false c.equal_references.ensures.value
    c.equal_references.ensures.space_after
