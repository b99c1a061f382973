-- `output::put_type` meets its contract: the letters r, and then the last one. Assumes nothing.
use Prim.Native.Nat.{ℕ, zero, suc, ◌+◌, ◌/◌, ◌%◌}
use mathlib.Core.Path.{◌≡◌, refl, sym, ap, ◌∙◌}
use native.Mathlib.Omega.{arith}
use Rattle.std.specs.Prelude.{List, ◌∷◌, ◌++◌, length, replicate}
use Rattle.std.proofs.lemmas.List.{length-replicate}
use Rattle.text.specs.Bytes.{letter_r}
use Rattle.text.specs.Code.Output.Laws.{put_one, put_then}
use Rattle.text.specs.Writing.{type_text}
use Rattle.output.proofs.put_type.Goals as goal

type-length : (t : ℕ) → length (type_text t) ≡ t / 2 + 1
unfolding type_text
type-length zero = refl
type-length (suc zero) = refl
type-length (suc (suc t)) = let e = type-length t in omega arith

type-parts : (t : ℕ) → replicate (t / 2) letter_r ++ type_text (t % 2) ≡ type_text t
unfolding type_text
type-parts zero = refl
type-parts (suc zero) = refl
type-parts (suc (suc t)) =
    let h : suc (suc t) / 2 ≡ suc (t / 2) = omega arith in
    let m : suc (suc t) % 2 ≡ t % 2 = omega arith in
    rw (h, m) (ap (λ (l : List ℕ). letter_r ∷ l) (type-parts t))

pub put_times-last-requires : goal.put_times-last-requires
put_times-last-requires c = let e = type-length c.args.code in omega (arith, e)

pub overflow_add-result : goal.overflow_add-result
overflow_add-result c =
    let e = type-length c.args.code in
    let p = c.put_times-last.ensures.next-is ∙ ap (λ i. c.args.at + i) (length-replicate (c.args.code / 2) letter_r) in
    record { fits = omega (arith, e, p) }

pub returns-then-code-eq0 : goal.returns-then-code-eq0
unfolding type_text
returns-then-code-eq0 c =
    let parts = rw c.if-code-eq0.true at (type-parts c.args.code) in
    rw (sym parts) (put_then c.put_times-last.ensures (put_one c.put.ensures))

pub overflow_add-result-2 : goal.overflow_add-result-2
overflow_add-result-2 c =
    let e = type-length c.args.code in
    let p = c.put_times-last.ensures.next-is ∙ ap (λ i. c.args.at + i) (length-replicate (c.args.code / 2) letter_r) in
    record { fits = omega (arith, e, p) }

pub returns : goal.returns
unfolding type_text
returns c =
    let odd : c.args.code % 2 ≡ 1 = omega arith in
    let parts = rw odd at (type-parts c.args.code) in
    rw (sym parts) (put_then c.put_times-last.ensures (put_one c.put-2.ensures))
