-- `tests::too_deep` meets its contract: only a `sym` is too deep. Assumes nothing.
use mathlib.Core.Path.{refl, sym, ◌∙◌}
use Rattle.tests.proofs.too_deep.Goals as goal

pub returns-then-is_sym : goal.returns-then-is_sym
returns-then-is_sym c = rw (sym c.is_sym.ensures ∙ c.if-is_sym.true) refl

pub returns : goal.returns
returns c = rw (sym c.is_sym.ensures ∙ c.if-is_sym.false) refl
