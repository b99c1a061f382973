-- `symbolic::leaf` meets its contract: a row for a number or a constant, the value of a variable. Assumes nothing.
use Rattle.script.specs.Rows.Laws.{none_left, but}
use Rattle.workspace.specs.Rules.Operators.{leaf-int, leaf-true, leaf-var, leaf-other}
use Rattle.symbolic.proofs.leaf.Goals as goal

pub returns-in-0 : goal.returns-in-0
returns-in-0 c =
    let a = c.args in
    leaf-int a.n a.node a.depth c.requires.room c.push.ensures.value c.in-0.is c.push.ensures.space_after

pub returns-in-1 : goal.returns-in-1
returns-in-1 c =
    let a = c.args in
    leaf-true a.n a.node a.depth c.requires.room c.push-in-1.ensures.value c.in-1.is c.push-in-1.ensures.space_after

pub returns-in-3 : goal.returns-in-3
returns-in-3 c = leaf-var c.in-3.is c.variable.ensures

pub returns-in_default : goal.returns-in_default
returns-in_default c =
    let a = c.args in
    let d = c.in_default.in_default-own.rest in
    leaf-other a.n a.node a.depth c.requires.room c.push-in_default.ensures.value (but d.0.0.1 (but d.0.1 (but d.1 none_left))) c.push-in_default.ensures.space_after
