-- `fields::ends_field` meets its contract. Assumes nothing.
use borrow.Author.Tests.{eq-eqb, ne_eqb}
use Rattle.fields.proofs.ends_field.Goals as goal

pub returns-then-c-eq-TAB : goal.returns-then-c-eq-TAB
returns-then-c-eq-TAB c = simp (eq-eqb _ _ c.if-c-eq-TAB.true)

pub returns : goal.returns
returns c = simp (ne_eqb _ _ c.if-c-eq-TAB.false)
