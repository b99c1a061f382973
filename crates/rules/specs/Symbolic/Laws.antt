-- Sameness of atoms is reflexive, symmetric and transitive: numbers are compared modulo 2^32, coefficients that are missing count as 0, and a sum's
-- negation negated is the sum. Assumes nothing.
use Rattle.std.specs.Prelude.{◌≡◌, ℕ, ◌%◌, ◌^◌, get_or}
use Rattle.rules.specs.Symbolic.{Sum, negated, Atom, truth_symbol, pair, difference}

-- ---- sums

-- equal constants and equal coefficients, modulo 2^32
pub record Congruent (p q : Sum) : Type 0 where
  pub constants : p.constant % 2 ^ 32 ≡ q.constant % 2 ^ 32
  pub each : (i : ℕ) → get_or p.coefficients i 0 % 2 ^ 32 ≡ get_or q.coefficients i 0 % 2 ^ 32

-- ---- atoms

-- what `same_atom` tells
pub data SameAtoms : Atom → Atom → Type 0 where
  one_truth : {s u : ℕ} → s ≡ u → SameAtoms (truth_symbol s) (truth_symbol u)
  straight : {r s u v : ℕ} → r ≡ u → s ≡ v → SameAtoms (pair r s) (pair u v)
  crossed : {r s u v : ℕ} → r ≡ v → s ≡ u → SameAtoms (pair r s) (pair u v)
  same_difference : {p q : Sum} → Congruent p q → SameAtoms (difference p) (difference q)
  opposites : {p q : Sum} → Congruent p (negated q) → SameAtoms (difference p) (difference q)
