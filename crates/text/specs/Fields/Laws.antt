-- Two byte strings compared one byte at a time. Assumes nothing.
use lib.Pointwise.{pointwise}
use Rattle.std.specs.Prelude.{Bool, true, false, ◌&&◌, List, [], ◌∷◌, ◌≡◌, ℕ, suc, ◌<◌, eqb, length, drop, get_or}
use Rattle.std.proofs.Math.Path.{refl}
use Rattle.std.proofs.Common.{ap}
use Rattle.std.proofs.Math.Seq.{drop-cons, drop-length}
use borrow.Author.Tests.{eq-eqb, ne_eqb}
use Rattle.text.specs.Fields.{same_bytes}

-- ---- byte strings

pub same_lengths : (a b : List ℕ) → (length a ≡ length b → ⊥) → same_bytes a b ≡ false
unfolding same_bytes
same_lengths [] [] h = absurd (h refl)
same_lengths [] (d ∷ b) h = refl
same_lengths (c ∷ a) [] h = refl
same_lengths (c ∷ a) (d ∷ b) h = go (eqb c d) (same_lengths a b (λ e. h (ap suc e)))
  where
    go : (t : Bool) → same_bytes a b ≡ false → t && same_bytes a b ≡ false
    go true e = e
    go false e = refl

-- at a place of both
module _ (a b : List ℕ) (i : ℕ) (h : i < length a) (k : i < length b) where
  pub same-differ : (get_or a i 0 ≡ get_or b i 0 → ⊥) → same_bytes (drop i a) (drop i b) ≡ false
  unfolding same_bytes
  same-differ n = rw (drop-cons a i 0 h, drop-cons b i 0 k, ne_eqb (get_or a i 0) (get_or b i 0) n) refl

  pub same_next : get_or a i 0 ≡ get_or b i 0 → same_bytes (drop i a) (drop i b) ≡ same_bytes (drop (suc i) a) (drop (suc i) b)
  unfolding same_bytes
  same_next e = rw (drop-cons a i 0 h, drop-cons b i 0 k, eq-eqb (get_or a i 0) (get_or b i 0) e) refl

pub same_end : (a b : List ℕ) → length a ≡ length b → same_bytes (drop (length a) a) (drop (length a) b) ≡ true
unfolding same_bytes
same_end a b e = rw (drop-length a, e, drop-length b) refl

-- the library's comparison of two byte strings
pub same-pointwise : (a b : List ℕ) → pointwise eqb a b ≡ same_bytes a b
unfolding same_bytes
same-pointwise [] [] = refl
same-pointwise [] (d ∷ b) = refl
same-pointwise (c ∷ a) [] = refl
same-pointwise (c ∷ a) (d ∷ b) = ap (λ (t : Bool). eqb c d && t) (same-pointwise a b)
