-- The place of a reference has its symbol and its origin; and what the code answers of two places, case by case. Assumes nothing.
use Rattle.std.specs.Prelude.{false, not, ◌≡◌, refl, ℕ, zero, suc, ◌+◌, ◌*◌, ◌%◌, ◌≤◌, ◌<◌, eqb}
use Rattle.std.proofs.Math.Path.{sym}
use Rattle.std.proofs.Common.{ap, arith}
use Rattle.rules.specs.Symbolic.{Origin, made, initial, other, apart}
use Rattle.terms.specs.References.{origins, origin_number, origin_by, IsOrigin, reference_at, symbol_at, origin_at, apart_at}

pub symbol_of : (o : Origin) (s : ℕ) → symbol_at (reference_at o s) ≡ s
symbol_of made s = omega arith
symbol_of initial s = omega arith
symbol_of other s = omega arith

number_of : (o : Origin) (s : ℕ) → reference_at o s % origins ≡ origin_number o
number_of made s = omega arith
number_of initial s = omega arith
number_of other s = omega arith

by_number : (o : Origin) → origin_by (origin_number o) ≡ o
by_number made = refl
by_number initial = refl
by_number other = refl

pub origin_of : (o : Origin) (s : ℕ) → origin_at (reference_at o s) ≡ o
origin_of o s = rw (number_of o s) (by_number o)

pub reference_is : (s n : ℕ) → IsOrigin n → origins * s + n ≡ reference_at (origin_by n) s
reference_is s n e = ap (λ (k : ℕ). origins * s + k) e

pub origin-below : (n : ℕ) → IsOrigin n → n < origins
origin-below zero e = omega arith
origin-below (suc zero) e = omega arith
origin-below (suc (suc zero)) e = omega arith
origin-below (suc (suc (suc n))) e = omega arith

pub apart_of : (o : Origin) (s : ℕ) (p : Origin) (u : ℕ) → apart_at (reference_at o s) (reference_at p u) ≡ apart o s p u
unfolding apart_at
apart_of o s p u = rw (origin_of o s, origin_of p u, symbol_of o s, symbol_of p u) refl

-- ---- the tests of the code

-- two origins by their numbers: different symbols of theirs are apart exactly if the sum is more than that of two variables
abbrev pub two_variables : ℕ
two_variables = origin_number initial + origin_number initial

together : (m n : ℕ) (s u : ℕ) → m + n ≤ two_variables → apart (origin_by m) s (origin_by n) u ≡ false
unfolding apart
together zero n s u l = refl
together (suc zero) n s u l = refl
together (suc (suc zero)) zero s u l = refl
together (suc (suc zero)) (suc zero) s u l = refl
together (suc (suc zero)) (suc (suc zero)) s u l = refl
together (suc (suc zero)) (suc (suc (suc n))) s u l = absurd (omega arith)
together (suc (suc (suc m))) zero s u l = refl
together (suc (suc (suc m))) (suc zero) s u l = refl
together (suc (suc (suc m))) (suc (suc n)) s u l = absurd (omega arith)

parted : (m n : ℕ) (s u : ℕ) → m < origins → n < origins → two_variables < m + n → apart (origin_by m) s (origin_by n) u ≡ not (eqb s u)
unfolding apart
parted zero n s u k l h = absurd (omega arith)
parted (suc zero) n s u k l h = absurd (omega arith)
parted (suc (suc zero)) zero s u k l h = absurd (omega arith)
parted (suc (suc zero)) (suc zero) s u k l h = absurd (omega arith)
parted (suc (suc zero)) (suc (suc zero)) s u k l h = absurd (omega arith)
parted (suc (suc zero)) (suc (suc (suc n))) s u k l h = refl
parted (suc (suc (suc m))) zero s u k l h = absurd (omega arith)
parted (suc (suc (suc m))) (suc zero) s u k l h = absurd (omega arith)
parted (suc (suc (suc m))) (suc (suc zero)) s u k l h = refl
parted (suc (suc (suc m))) (suc (suc (suc n))) s u k l h = refl

module _ (p q : ℕ) where
  pub apart-few : p % origins + q % origins ≤ two_variables → false ≡ apart_at p q
  unfolding apart_at
  apart-few l = sym (together (p % origins) (q % origins) (symbol_at p) (symbol_at q) l)

  pub apart-many : two_variables < p % origins + q % origins → not (eqb (symbol_at p) (symbol_at q)) ≡ apart_at p q
  unfolding apart_at
  apart-many h = sym (parted (p % origins) (q % origins) (symbol_at p) (symbol_at q) (omega arith) (omega arith) h)
