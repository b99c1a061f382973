-- `fields::type_code` meets its contract. The loop's invariant: the code that the letters from i on make after t is the whole code, and there
-- is room for one letter more. Assumes nothing.
use mathlib.Core.List.{[]}
use mathlib.Core.Path.{◌≡◌, refl, sym, ap, ◌∙◌}
use Prim.Native.Nat.{suc, ◌*◌}
use native.Mathlib.Numerals.{add-one}
use native.Mathlib.Omega.{arith}
use lib.ListN.{length, drop}
use lib.Seq.{drop-length}
use Rattle.script.specs.Limits.{type_limit}
use Rattle.text.specs.Fields.{type_up_to, type_of}
use Rattle.text.specs.Code.Scan.{said_by}
use Rattle.text.specs.Code.Scan.Laws.{type-above, type-more, type-last, type-long, type_end}
use Rattle.fields.proofs.type_code.Goals as goal

pub loop-i-init : goal.loop-i-init
unfolding type_of
loop-i-init c = (omega arith, refl)

pub returns-then-i-f : goal.returns-then-i-f
returns-then-i-f c =
    let a = c.args in
    let l = c.loop-i in
    sym (ap said_by (sym l.invariant.1 ∙ ap (type_up_to type_limit) (type-long (2 * l.i) a.f.now l.i (omega arith) c.if-c-ne114.true (omega arith))))

pub returns-then-c-ne114 : goal.returns-then-c-ne114
returns-then-c-ne114 c =
    let a = c.args in
    let l = c.loop-i in
    let e = type-last (2 * l.i) a.f.now l.i (omega arith) c.if-c-ne114.true (omega arith) in
    c.last_letter.ensures ∙ ap said_by (sym (ap (type_up_to type_limit) e) ∙ l.invariant.1)

pub returns-then-i : goal.returns-then-i
returns-then-i c =
    let a = c.args in
    let l = c.loop-i in
    let e = type-more (2 * l.i) a.f.now l.i (omega arith) c.if-c-ne114.false in
    sym (ap said_by (sym l.invariant.1 ∙ ap (type_up_to type_limit) e ∙ type-above (suc (suc (2 * l.i))) (drop (suc l.i) a.f.now) (omega arith)))

pub loop-i-preserved : goal.loop-i-preserved
loop-i-preserved c =
    let a = c.args in
    let l = c.loop-i in
    let e = type-more (2 * l.i) a.f.now l.i (omega arith) c.if-c-ne114.false in
    let d : 2 * suc l.i ≡ suc (suc (2 * l.i)) = omega arith in
    (omega arith, rw (add-one l.i, d) (sym (ap (type_up_to type_limit) e) ∙ l.invariant.1))

pub returns : goal.returns
returns c =
    let f = c.args.f.now in
    let l = c.loop-i in
    let e : l.i ≡ length f = omega arith in
    let d : drop l.i f ≡ [] = rw e (drop-length f) in
    let h = rw d at l.invariant.1 in
    sym (ap said_by (sym h ∙ ap (type_up_to type_limit) (type_end (2 * l.i))))
