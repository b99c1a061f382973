-- `terms::atoms::find_atom` meets its contract. The loop's invariant: no row passed is the atom. Assumes nothing.
use mathlib.Core.Path.{sym, ap, ◌∙◌}
use native.Mathlib.Omega.{arith}
use Rattle.script.specs.Tests.Loops.{look_on}
use Rattle.terms.specs.Search.{first-here, first_end, below, not_below}
use Rattle.terms.specs.Terms.{count_in}
use Rattle.terms.specs.Atoms.{is_atom, atom_at}
use Rattle.terms.proofs.atoms.find_atom.Goals as goal

pub returns-then-is_atom : goal.returns-then-is_atom
returns-then-is_atom c =
    let a = c.args in
    let l = c.loop-i in
    let e = first-here (atom_at a.space.now a.op a.a a.b) (count_in a.space.now) l.i l.invariant c.loop-i-test.true
    (sym (c.is_atom.ensures ∙ ap (is_atom a.op a.a a.b) c.row_at.ensures) ∙ c.if-is_atom.true) in
    rw (← e) (below l.i (count_in a.space.now) c.loop-i-test.true)

pub loop-i-preserved : goal.loop-i-preserved
loop-i-preserved c =
    let a = c.args in
    let l = c.loop-i in
    look_on (atom_at a.space.now a.op a.a a.b) (count_in a.space.now) l.i l.invariant c.loop-i-test.true
    (sym (c.is_atom.ensures ∙ ap (is_atom a.op a.a a.b) c.row_at.ensures) ∙ c.if-is_atom.false)

pub returns : goal.returns
returns c =
    let a = c.args in
    let n = count_in a.space.now in
    let e = first_end (atom_at a.space.now a.op a.a a.b) n c.loop-i.i c.loop-i.invariant c.loop-i-test.false in
    rw (← e) (not_below n n (omega arith))
