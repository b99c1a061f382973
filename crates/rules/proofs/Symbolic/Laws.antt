-- Sameness of atoms is reflexive, symmetric and transitive: numbers are compared modulo 2^32, coefficients that are missing count as 0, and a sum's
-- negation negated is the sum. Assumes nothing.
use Rattle.std.specs.Prelude.{true, ◌&&◌, List, [], ◌∷◌, ◌⊎◌, ◌≡◌, refl, ℕ, zero, suc, ◌-◌, ◌%◌, ◌^◌, ◌<◌, eqb, get_or}
use Rattle.std.proofs.lemmas.Bool.{false≢true}
use Rattle.std.proofs.Common.{inl, inr, sym, ◌∙◌, mod-lt, mod-eq_of_lt, le_of_lt, eq-zero-or-pos, arith, lit<, eqb-true, eq-eqb}
use Rattle.std.proofs.Math.Nat.{mod-mod, mod_self, sub-zero}
use Rattle.std.proofs.Math.Arith.{sub-sub_self}
use Rattle.script.specs.Tests.{all}
use Rattle.script.specs.Tests.Laws.{both_true, true-both, or_cases, or_first, or_second, both_ways}
use Rattle.rules.specs.Symbolic.{Sum, opposite, opposite_each, negated, same_number, is_zero, same_each, same_sum, Atom, truth_symbol, pair, difference, same_atom}
use Rattle.rules.specs.Symbolic.Laws.{Congruent, SameAtoms, crossed, one_truth, opposites, same_difference, straight}

-- ---- numbers modulo m

module _ (m : ℕ) (pos : 0 < m) where
  -- the opposite's opposite, of a number below m
  pub opposite_twice : (r : ℕ) → r < m → (m - (m - r) % m) % m ≡ r
  opposite_twice r h = go (eq-zero-or-pos r)
    where
      go : (r ≡ 0) ⊎ (0 < r) → (m - (m - r) % m) % m ≡ r
      go (inl e) = rw (e, sub-zero, mod_self, sub-zero, mod_self)
      go (inr k) = let l : m - r < m = omega arith in rw (mod-eq_of_lt l, sub-sub_self (le_of_lt h), mod-eq_of_lt h)

pub opposite-opposite : (x : ℕ) → opposite (opposite x) ≡ x % 2 ^ 32
opposite-opposite x = rw mod-mod (opposite_twice (2 ^ 32) (lit< tt) (x % 2 ^ 32) (mod-lt x (lit< tt)))

pub opposite-same : (x y : ℕ) → x % 2 ^ 32 ≡ y % 2 ^ 32 → opposite x ≡ opposite y
opposite-same x y e = rw e

pub all-zero : (xs : List ℕ) → all is_zero xs ≡ true → (i : ℕ) → get_or xs i 0 % 2 ^ 32 ≡ 0
all-zero [] h i = refl
all-zero (x ∷ xs) h zero = eqb-true _ _ (both_true (is_zero x) (all is_zero xs) h).0
all-zero (x ∷ xs) h (suc i) = all-zero xs (both_true (is_zero x) (all is_zero xs) h).1 i

pub zero-all : (xs : List ℕ) → ((i : ℕ) → get_or xs i 0 % 2 ^ 32 ≡ 0) → all is_zero xs ≡ true
zero-all [] h = refl
zero-all (x ∷ xs) h = true-both (is_zero x) (all is_zero xs) (eq-eqb _ _ (h zero)) (zero-all xs λ i. h (suc i))

pub same-each : (xs ys : List ℕ) → same_each xs ys ≡ true → (i : ℕ) → get_or xs i 0 % 2 ^ 32 ≡ get_or ys i 0 % 2 ^ 32
unfolding same_each
same-each [] ys h i = sym (all-zero ys h i)
same-each (x ∷ xs) [] h i = all-zero (x ∷ xs) h i
same-each (x ∷ xs) (y ∷ ys) h zero = eqb-true _ _ (both_true (same_number x y) (same_each xs ys) h).0
same-each (x ∷ xs) (y ∷ ys) h (suc i) = same-each xs ys (both_true (same_number x y) (same_each xs ys) h).1 i

pub each_same : (xs ys : List ℕ) → ((i : ℕ) → get_or xs i 0 % 2 ^ 32 ≡ get_or ys i 0 % 2 ^ 32) → same_each xs ys ≡ true
unfolding same_each
each_same [] ys h = zero-all ys λ i. sym (h i)
each_same (x ∷ xs) [] h = zero-all (x ∷ xs) h
each_same (x ∷ xs) (y ∷ ys) h = true-both (same_number x y) (same_each xs ys) (eq-eqb _ _ (h zero)) (each_same xs ys λ i. h (suc i))

pub same_congruent : (p q : Sum) → same_sum p q ≡ true → Congruent p q
unfolding same_sum
same_congruent p q h =
    let a = same_number p.constant q.constant in
    let b = same_each p.coefficients q.coefficients in
    record { constants = eqb-true _ _ (both_true a b h).0; each = same-each _ _ (both_true a b h).1 }

pub congruent_same : (p q : Sum) → Congruent p q → same_sum p q ≡ true
unfolding same_sum
congruent_same p q c =
    true-both (same_number p.constant q.constant) (same_each p.coefficients q.coefficients)
    (eq-eqb _ _ c.constants) (each_same _ _ c.each)

pub congruent_refl : (p : Sum) → Congruent p p
congruent_refl p = record { constants = refl; each = λ i. refl }

pub congruent_sym : {p q : Sum} → Congruent p q → Congruent q p
congruent_sym c = record { constants = sym c.constants; each = λ i. sym (c.each i) }

pub congruent_trans : {p q r : Sum} → Congruent p q → Congruent q r → Congruent p r
congruent_trans c d = record { constants = c.constants ∙ d.constants; each = λ i. c.each i ∙ d.each i }

-- a coefficient of the negated sum
pub opposite-at : (xs : List ℕ) (i : ℕ) → get_or (opposite_each xs) i 0 ≡ opposite (get_or xs i 0)
unfolding opposite_each
opposite-at [] i = refl
opposite-at (x ∷ xs) zero = refl
opposite-at (x ∷ xs) (suc i) = opposite-at xs i

pub congruent_negated : {p q : Sum} → Congruent p q → Congruent (negated p) (negated q)
congruent_negated c = record {
  constants = rw c.constants;
  each = λ i. simp opposite-at (rw (c.each i));
}

pub negated_twice : (p : Sum) → Congruent (negated (negated p)) p
negated_twice p = record {
  constants = rw opposite-opposite (mod-mod _ _);
  each = λ i. simp opposite-at (rw opposite-opposite (mod-mod _ _));
}

pub same-atoms : (x y : Atom) → same_atom x y ≡ true → SameAtoms x y
unfolding same_atom
same-atoms (truth_symbol s) (truth_symbol u) h = one_truth (eqb-true s u h)
same-atoms (truth_symbol s) (pair u v) h = absurd (false≢true h)
same-atoms (truth_symbol s) (difference q) h = absurd (false≢true h)
same-atoms (pair r s) (truth_symbol u) h = absurd (false≢true h)
same-atoms (pair r s) (pair u v) h = go (or_cases (eqb r u && eqb s v) (eqb r v && eqb s u) h)
  where
    go : ((eqb r u && eqb s v) ≡ true) ⊎ ((eqb r v && eqb s u) ≡ true) → SameAtoms (pair r s) (pair u v)
    go (inl k) = straight (eqb-true r u (both_true (eqb r u) (eqb s v) k).0) (eqb-true s v (both_true (eqb r u) (eqb s v) k).1)
    go (inr k) = crossed (eqb-true r v (both_true (eqb r v) (eqb s u) k).0) (eqb-true s u (both_true (eqb r v) (eqb s u) k).1)
same-atoms (pair r s) (difference q) h = absurd (false≢true h)
same-atoms (difference p) (truth_symbol u) h = absurd (false≢true h)
same-atoms (difference p) (pair u v) h = absurd (false≢true h)
same-atoms (difference p) (difference q) h = go (or_cases (same_sum p q) (same_sum p (negated q)) h)
  where
    go : (same_sum p q ≡ true) ⊎ (same_sum p (negated q) ≡ true) → SameAtoms (difference p) (difference q)
    go (inl k) = same_difference (same_congruent p q k)
    go (inr k) = opposites (same_congruent p (negated q) k)

pub atoms-same : {x y : Atom} → SameAtoms x y → same_atom x y ≡ true
unfolding same_atom
atoms-same (one_truth e) = eq-eqb _ _ e
atoms-same (straight {r = r} {s = s} {u = u} {v = v} e f) =
    or_first (eqb r u && eqb s v) (eqb r v && eqb s u) (true-both (eqb r u) (eqb s v) (eq-eqb r u e) (eq-eqb s v f))
atoms-same (crossed {r = r} {s = s} {u = u} {v = v} e f) =
    or_second (eqb r u && eqb s v) (eqb r v && eqb s u) (true-both (eqb r v) (eqb s u) (eq-eqb r v e) (eq-eqb s u f))
atoms-same (same_difference {p = p} {q = q} c) = or_first (same_sum p q) (same_sum p (negated q)) (congruent_same p q c)
atoms-same (opposites {p = p} {q = q} c) = or_second (same_sum p q) (same_sum p (negated q)) (congruent_same p (negated q) c)

pub same_refl : (x : Atom) → SameAtoms x x
same_refl (truth_symbol s) = one_truth refl
same_refl (pair r s) = straight refl refl
same_refl (difference p) = same_difference (congruent_refl p)

pub same-sym : {x y : Atom} → SameAtoms x y → SameAtoms y x
same-sym (one_truth e) = one_truth (sym e)
same-sym (straight e f) = straight (sym e) (sym f)
same-sym (crossed e f) = crossed (sym f) (sym e)
same-sym (same_difference c) = same_difference (congruent_sym c)
same-sym (opposites {q = q} c) =
    opposites (congruent_trans (congruent_sym (negated_twice q)) (congruent_negated (congruent_sym c)))

pub same_trans : {x y z : Atom} → SameAtoms x y → SameAtoms y z → SameAtoms x z
same_trans (one_truth e) (one_truth f) = one_truth (e ∙ f)
same_trans (straight e f) (straight e' f') = straight (e ∙ e') (f ∙ f')
same_trans (straight e f) (crossed e' f') = crossed (e ∙ e') (f ∙ f')
same_trans (crossed e f) (straight e' f') = crossed (e ∙ f') (f ∙ e')
same_trans (crossed e f) (crossed e' f') = straight (e ∙ f') (f ∙ e')
same_trans (same_difference c) (same_difference d) = same_difference (congruent_trans c d)
same_trans (same_difference c) (opposites d) = opposites (congruent_trans c d)
same_trans (opposites c) (same_difference d) = opposites (congruent_trans c (congruent_negated d))
same_trans (opposites c) (opposites {q = r} d) =
    same_difference (congruent_trans c (congruent_trans (congruent_negated d) (negated_twice r)))

pub same_atom-refl : (x : Atom) → same_atom x x ≡ true
same_atom-refl x = atoms-same (same_refl x)

pub same_atom-sym : (x y : Atom) → same_atom x y ≡ true → same_atom y x ≡ true
same_atom-sym x y h = atoms-same (same-sym (same-atoms x y h))

pub same_atom_trans : (x y z : Atom) → same_atom x y ≡ true → same_atom y z ≡ true → same_atom x z ≡ true
same_atom_trans x y z h k = atoms-same (same_trans (same-atoms x y h) (same-atoms y z k))

-- two atoms that are the same are the same as the same atoms
pub same_atom-right : (x y z : Atom) → same_atom x y ≡ true → same_atom z x ≡ same_atom z y
same_atom-right x y z h =
    both_ways (same_atom z x) (same_atom z y)
    (λ k. same_atom_trans z x y k h) (λ k. same_atom_trans z y x k (same_atom-sym x y h))
