-- How stored bytes follow one another: nothing, one byte, two parts in a row, what remains to be stored, and a whole text that fits.
-- Assumes nothing.
use Rattle.std.specs.Prelude.{List, [], ◌∷◌, ◌++◌, ◌≡◌, refl, ℕ, suc, ◌+◌, ◌≤◌, ◌<◌, length, get_or, drop, set}
use Rattle.std.proofs.Common.{sym, ap, ◌∙◌, add-zero, zero-add, add-one, arith, length-append, drop-cons}
use Rattle.std.proofs.lemmas.List.Edits.{sets, sets-eq}
use Rattle.std.proofs.Math.Seq.{length-sets}
use Rattle.text.specs.Code.Output.{Put}

sets_append : (out : List ℕ) (at : ℕ) (xs ys : List ℕ) → sets out at (xs ++ ys) ≡ sets (sets out at xs) (at + length xs) ys
sets_append out at [] ys = rw (add-zero at) refl
sets_append out at (x ∷ xs) ys =
    let e : at + suc (length xs) ≡ suc at + length xs = omega arith in
    rw e (sets_append (set out at x) (suc at) xs ys)

-- what is stored after the bytes xs follows them
after : {xs : List ℕ} {m n : ℕ} {o₁ o₂ : List ℕ} (ys : List ℕ) → Put xs m o₁ n o₂ → sets o₂ n ys ≡ sets o₁ m (xs ++ ys)
after {xs} {m} {n} {o₁} {o₂} ys p =
    ap (λ (k : ℕ). sets o₂ k ys) p.next-is ∙ ap (λ (o : List ℕ). sets o (m + length xs) ys) p.bytes_are ∙ sym (sets_append o₁ m xs ys)

-- ---- parts in a row

pub put_none : (at : ℕ) (out : List ℕ) → Put [] at out at out
put_none at out = record { next-is = omega arith; bytes_are = refl }

pub put_one : {at b : ℕ} {out out' : List ℕ} → out' ≡ set out at b → Put (b ∷ []) at out (at + 1) out'
put_one e = record { next-is = refl; bytes_are = e }

pub put_then : {xs ys : List ℕ} {at m n : ℕ} {o₀ o₁ o₂ : List ℕ} → Put xs at o₀ m o₁ → Put ys m o₁ n o₂ → Put (xs ++ ys) at o₀ n o₂
put_then {xs} {ys} p q =
    let a = p.next-is in
    let b = q.next-is in
    record { next-is = rw (length-append xs ys) (omega arith); bytes_are = q.bytes_are ∙ after ys p }

pub put_length : {xs : List ℕ} {at n : ℕ} {o₀ o₁ : List ℕ} → Put xs at o₀ n o₁ → length o₁ ≡ length o₀
put_length {xs} {at} {n} {o₀} p = ap length p.bytes_are ∙ length-sets o₀ at xs

-- ---- what remains

-- storing the rest from place `next` on is storing all the bytes from place `at` on
pub record Remains (bytes : List ℕ) (at : ℕ) (out : List ℕ) (rest : List ℕ) (next : ℕ) (out' : List ℕ) : Type 0 where
  pub end_is : next + length rest ≡ at + length bytes
  pub all_are : sets out' next rest ≡ sets out at bytes

module _ {bytes : List ℕ} {at : ℕ} {out : List ℕ} where
  pub remains_all : Remains bytes at out bytes at out
  remains_all = record { end_is = refl; all_are = refl }

  pub remains_less : {xs ys : List ℕ} {m n : ℕ} {o₁ o₂ : List ℕ} → Remains bytes at out (xs ++ ys) m o₁ → Put xs m o₁ n o₂ → Remains bytes at out ys n o₂
  remains_less {xs} {ys} r p =
      let a = p.next-is in
      let b = rw (length-append xs ys) at r.end_is in
      record { end_is = omega arith; all_are = after ys p ∙ r.all_are }

  -- the next part ends where the bytes end, or before
  pub remains_room : (xs ys : List ℕ) {m : ℕ} {o : List ℕ} → Remains bytes at out (xs ++ ys) m o → m + length xs ≤ at + length bytes
  remains_room xs ys r = let e = rw (length-append xs ys) at r.end_is in omega arith

  pub remains_none : {n : ℕ} {o : List ℕ} → Remains bytes at out [] n o → Put bytes at out n o
  remains_none {n} r = record { next-is = let e = r.end_is in omega arith; bytes_are = r.all_are }

  pub remains_length : {rest : List ℕ} {n : ℕ} {o : List ℕ} → Remains bytes at out rest n o → length o ≡ length out
  remains_length {rest} {n} {o} r = sym (length-sets o n rest) ∙ ap length r.all_are ∙ length-sets out at bytes

  -- one byte further
  pub remains_byte : {rest : List ℕ} {m b : ℕ} {o₁ o₂ : List ℕ} → Remains bytes at out (b ∷ rest) m o₁ → o₂ ≡ set o₁ m b → Remains bytes at out rest (m + 1) o₂
  remains_byte {b = b} r e = remains_less {xs = b ∷ []} r (put_one e)

-- the same in a list by places
pub remains_next : {bytes out o₁ o₂ : List ℕ} (i at : ℕ) → i < length bytes → Remains bytes at out (drop i bytes) (at + i) o₁ → o₂ ≡ set o₁ (at + i) (get_or bytes i 0) → Remains bytes at out (drop (i + 1) bytes) (at + (i + 1)) o₂
remains_next {bytes} i at h r e =
    let n : at + (i + 1) ≡ at + i + 1 = omega arith in
    rw (n, add-one i) (remains_byte (rw (drop-cons bytes i 0 h) at r) e)

-- ---- the whole text

-- a text that fits stands at the front, and the bytes after it are untouched
pub put_text : {text : List ℕ} {n : ℕ} {out out' : List ℕ} → Put text 0 out n out' → length text ≤ length out → out' ≡ text ++ drop (length text) out
put_text {text} {n} {out} p h = p.bytes_are ∙ rw (zero-add (length text)) at (sets-eq text out 0 (omega arith))

-- no bytes stay no bytes
pub put_empty : {xs : List ℕ} {at n : ℕ} {out : List ℕ} → Put xs at [] n out → out ≡ []
put_empty {xs} {at} p = p.bytes_are ∙ none-set at xs
  where
    none-set : (at : ℕ) (xs : List ℕ) → sets [] at xs ≡ []
    none-set at [] = refl
    none-set at (x ∷ xs) = none-set (suc at) xs
