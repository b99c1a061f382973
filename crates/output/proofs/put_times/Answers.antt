-- `output::put_times` meets its contract: the bytes that fit are stored, and those behind the output's end change nothing. Assumes nothing.
use Prim.Native.Nat.{ℕ, zero, suc, ◌+◌, ◌-◌, ◌<◌, ◌≤◌}
use mathlib.Core.Path.{◌≡◌, refl, sym, ap, ◌∙◌}
use native.Mathlib.Omega.{arith}
use Rattle.std.specs.Prelude.{List, ◌++◌, length, take, drop, replicate}
use Rattle.std.proofs.lemmas.List.{set_past, length-replicate, length-take-le, length-drop, replicate-append-replicate, append_assoc, drop-drop}
use Rattle.std.proofs.lemmas.List.Edits.{sets, sets-eq}
use Rattle.std.proofs.Math.Seq.{length-sets}
use Rattle.text.specs.Code.Output.{Put}
use Rattle.text.specs.Code.Output.Laws.{put_then}
use Rattle.output.proofs.put_times.Goals as goal

past : (out : List ℕ) (at n b : ℕ) → length out ≤ at → sets out at (replicate n b) ≡ out
past out at zero b h = refl
past out at (suc n) b h = ap (λ (o : List ℕ). sets o (suc at) (replicate n b)) (set_past out at b h) ∙ past out (suc at) n b (omega arith)

-- where none fits, or there is none
nothing : (out : List ℕ) (at n b : ℕ) → (0 < n → length out ≤ at) → Put (replicate n b) at out (at + n) out
nothing out at zero b h = record { next-is = refl; bytes_are = refl }
nothing out at (suc n) b h =
    record { next-is = rw (length-replicate (suc n) b) refl; bytes_are = sym (past out at (suc n) b (h (omega arith))) }

-- the first k fit, and no more
fitting : (out : List ℕ) (at n k b : ℕ) → k ≤ n → at + k ≤ length out → (k < n → length out ≤ at + k)
    → Put (replicate n b) at out (at + n) (take at out ++ (replicate k b ++ drop k (drop at out)))
fitting out at n k b l f h =
    let all : at + length (replicate k b) ≤ length out = rw (length-replicate k b) f in
    let stored : sets out at (replicate k b) ≡ take at out ++ replicate k b ++ drop (at + k) out
    = rw (length-replicate k b) at (sets-eq (replicate k b) out at all) in
    let first : Put (replicate k b) at out (at + k) (take at out ++ replicate k b ++ drop (at + k) out)
    = record { next-is = rw (length-replicate k b) refl; bytes_are = sym stored } in
    let same : length (take at out ++ replicate k b ++ drop (at + k) out) ≡ length out = ap length (sym stored) ∙ length-sets out at (replicate k b) in
    let rest = nothing (take at out ++ replicate k b ++ drop (at + k) out) (at + k) (n - k) b (λ m. rw same (h (omega arith))) in
    let parts : replicate k b ++ replicate (n - k) b ≡ replicate n b
    = replicate-append-replicate k (n - k) b ∙ ap (λ i. replicate i b) ((let e : k + (n - k) ≡ n = omega arith in e)) in
    let place : at + k + (n - k) ≡ at + n = omega arith in
    let shape : take at out ++ replicate k b ++ drop (at + k) out ≡ take at out ++ (replicate k b ++ drop k (drop at out))
    = rw (drop-drop k at out) (append_assoc (take at out) (replicate k b) (drop (at + k) out)) in
    rw (sym parts, sym place, sym shape) (put_then first rest)

pub returns-then-at-end : goal.returns-then-at-end
returns-then-at-end c =
    let a = c.args in
    let e = c.min-end.ensures in
    let k = c.min-end.result - a.at in
    let room : k ≤ length (drop a.at a.out.now) = rw (length-drop a.at a.out.now) (omega arith) in
    let filled : c.fill.new.self ≡ replicate k a.b = rw (length-take-le k (drop a.at a.out.now) room) at (c.fill.ensures.after (λ y e. e)) in
    rw filled (fitting a.out.now a.at a.times k a.b (omega arith) (omega arith) (λ m. omega arith))

pub returns : goal.returns
returns c = let a = c.args in nothing a.out.now a.at a.times a.b (λ m. (let e = c.min-end.ensures in omega arith))
