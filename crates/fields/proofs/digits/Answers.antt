-- `fields::digits` meets its contract. The loop's invariant: the number that the digits from i on make after n is the whole number, and n is within
-- the limit. Assumes nothing.
use mathlib.Core.List.{[]}
use mathlib.Core.Path.{◌≡◌, refl, sym, ap, ◌∙◌}
use Prim.Native.Nat.{suc, ◌+◌, ◌-◌, ◌*◌}
use native.Mathlib.Omega.{arith}
use native.Mathlib.Numerals.{add-one}
use lib.ListN.{length, drop, get_or}
use lib.Seq.{drop-length}
use Rattle.text.specs.Code.Scan.{number_after, said_by}
use Rattle.text.specs.Code.Scan.Laws.{number-low, number-high, number-digit, number-above, number_end}
use Rattle.fields.proofs.digits.Goals as goal

pub loop-c-init : goal.loop-c-init
loop-c-init c = (omega arith, refl)

pub returns-then-c-lt48 : goal.returns-then-c-lt48
returns-then-c-lt48 c =
    let a = c.args in
    let l = c.loop-c in
    sym (ap said_by (sym l.invariant.1 ∙ number-low a.limit l.n a.f.now l.c-index (omega arith) c.if-c-lt48.true))

pub returns-then-c-gt57 : goal.returns-then-c-gt57
returns-then-c-gt57 c =
    let a = c.args in
    let l = c.loop-c in
    sym (ap said_by (sym l.invariant.1 ∙ number-high a.limit l.n a.f.now l.c-index (omega arith) c.if-c-gt57.true))

pub returns-then-limit-n : goal.returns-then-limit-n
returns-then-limit-n c =
    let a = c.args in
    let l = c.loop-c in
    let d = number-digit a.limit l.n a.f.now l.c-index (omega arith) (omega arith) (omega arith) in
    sym (ap said_by (sym l.invariant.1 ∙ d ∙ number-above a.limit (10 * l.n + (get_or a.f.now l.c-index 0 - 48)) (drop (suc l.c-index) a.f.now) c.if-limit-n.true))

pub loop-c-preserved : goal.loop-c-preserved
loop-c-preserved c =
    let a = c.args in
    let l = c.loop-c in
    let d = number-digit a.limit l.n a.f.now l.c-index (omega arith) (omega arith) (omega arith) in
    (omega arith, rw (add-one l.c-index) (sym d ∙ l.invariant.1))

pub returns : goal.returns
returns c =
    let a = c.args in
    let l = c.loop-c in
    let e : l.c-index ≡ length a.f.now = omega arith in
    let h : number_after a.limit l.n [] ≡ number_after a.limit 0 a.f.now = rw (e, drop-length) at l.invariant.1 in
    sym (ap said_by (sym h ∙ number_end a.limit l.n l.invariant.0))
