-- `fields::last_letter` meets its contract. Assumes nothing.
use borrow.Author.Tests.{eq-eqb, ne_eqb, le-leb}
use Prim.Native.Nat.{suc}
use native.Mathlib.Numerals.{add-one}
use native.Mathlib.Omega.{arith}
use Rattle.fields.proofs.last_letter.Goals as goal

pub returns-then-c-eq105 : goal.returns-then-c-eq105
returns-then-c-eq105 c = let t = c.args.t in simp (eq-eqb _ _ c.if-c-eq105.true, le-leb t 31 (omega arith))

pub returns-then-c-eq98 : goal.returns-then-c-eq98
returns-then-c-eq98 c = let t = c.args.t in simp (add-one t, ne_eqb _ _ c.if-c-eq105.false, eq-eqb _ _ c.if-c-eq98.true, le-leb (suc t) 31 (omega arith))

pub returns : goal.returns
returns c = simp (ne_eqb _ _ c.if-c-eq105.false, ne_eqb _ _ c.if-c-eq98.false)
