-- `words::sums::alike` meets its contract: the same numbers, or opposite ones. Assumes nothing.
use Rattle.std.proofs.Common.{refl}
use Rattle.std.proofs.lemmas.Bool.Decides.{Decides-eqb}
use Rattle.std.proofs.lemmas.Slice.Eq.{slice_eq-Decides}
use Rattle.words.specs.Sums.{alike}
use Rattle.words.specs.Sums.Laws.{equal-same}
use Rattle.words.proofs.sums.alike.Goals as goal

pub returns-then-eq : goal.returns-then-eq
unfolding alike
returns-then-eq c =
    let a = c.args in
    let e = equal-same a.xs.now a.ys.now c.eq.result c.told-xs c.told-ys (slice_eq-Decides Decides-eqb _ _ _ c.eq.ensures) in
    rw (← e, c.if-eq.true) refl

pub returns-else-eq : goal.returns-else-eq
unfolding alike
returns-else-eq c =
    let a = c.args in
    let e = equal-same a.xs.now a.ys.now c.eq.result c.told-xs c.told-ys (slice_eq-Decides Decides-eqb _ _ _ c.eq.ensures) in
    rw (← e, c.if-eq.false) c.opposite.ensures
