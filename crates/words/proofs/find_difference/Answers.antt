-- `words::find_difference` meets its contract. The loop's invariant: no row passed is the atom. Assumes nothing.
use Rattle.std.proofs.Common.{sym, ◌∙◌, arith}
use Rattle.script.specs.Tests.Loops.{look_on}
use Rattle.terms.specs.Search.{first-here, first_end, below, not_below}
use Rattle.terms.specs.Terms.{count_in}
use Rattle.words.specs.Words.{is_found}
use Rattle.words.proofs.find_difference.Goals as goal

pub returns-then-is_found : goal.returns-then-is_found
returns-then-is_found c =
    let a = c.args in
    let l = c.loop-i in
    let n = count_in a.space.now in
    let e = first-here (is_found a.space.now a.wanted.now) n l.i l.invariant c.loop-i-test.true (sym c.is_found.ensures ∙ c.if-is_found.true) in
    rw (← e) (below l.i n c.loop-i-test.true)

pub loop-i-preserved : goal.loop-i-preserved
loop-i-preserved c =
    let a = c.args in
    let l = c.loop-i in
    look_on (is_found a.space.now a.wanted.now) (count_in a.space.now) l.i l.invariant c.loop-i-test.true
    (sym c.is_found.ensures ∙ c.if-is_found.false)

pub returns : goal.returns
returns c =
    let a = c.args in
    let n = count_in a.space.now in
    let e = first_end (is_found a.space.now a.wanted.now) n c.loop-i.i c.loop-i.invariant c.loop-i-test.false in
    rw (← e) (not_below n n (omega arith))
