-- `fields::number` meets its contract. Assumes nothing.
use mathlib.Core.Path.{sym, ap, ◌∙◌}
use native.Mathlib.Omega.{arith}
use Rattle.text.specs.Code.Scan.{said_by}
use Rattle.text.specs.Code.Scan.Laws.{number-none, number_one, number-long, number-zeros}
use Rattle.fields.proofs.number.Goals as goal

pub returns-then-f-eq0 : goal.returns-then-f-eq0
returns-then-f-eq0 c = let a = c.args in sym (ap said_by (number-none a.limit a.f.now (omega arith)))

pub returns-then-f-eq1 : goal.returns-then-f-eq1
returns-then-f-eq1 c = let a = c.args in c.digits.ensures ∙ ap said_by (sym (number_one a.limit a.f.now (omega arith)))

pub returns-then-f-eq48 : goal.returns-then-f-eq48
returns-then-f-eq48 c = let a = c.args in sym (ap said_by (number-zeros a.limit a.f.now (omega arith) c.if-f-eq48.true))

pub returns : goal.returns
returns c = let a = c.args in c.digits-2.ensures ∙ ap said_by (sym (number-long a.limit a.f.now (omega arith) c.if-f-eq48.false))
