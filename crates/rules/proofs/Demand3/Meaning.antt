-- What symbolic values mean under a valuation of the symbols: words of sums, truths of formulas. Equality of sums means equality of words, and what the
-- atoms are under a valuation respects sameness of atoms. Assumes nothing.
use Rattle.std.specs.Prelude.{◌≡◌, refl, Bool, true, false, List, [], ◌∷◌, ◌++◌, ℕ, ◌+◌, ◌*◌, ◌%◌, ◌^◌, ◌<◌, eqb, replicate}
use Rattle.std.proofs.Common.{sym, ap, ◌∙◌, add-mul, zero-mul, one-mul, mod-lt, mod-eq_of_lt, add-zero, zero-add, arith, lit<, eqb-true, eq-eqb, ne_eqb}
use Rattle.std.proofs.Math.Nat.{zero-mod}
use Rattle.std.proofs.Math.ListN.{get_elem?}
use Rattle.std.proofs.lemmas.Bool.{eqb-false}
use Rattle.script.specs.Tests.{pick, all}
use Rattle.script.specs.Tests.Laws.{both_true}
use Rattle.script.specs.declared.Value.TheVariants.{Word}
use Rattle.rules.specs.Demand3.Congruence.{Same}
use Rattle.rules.proofs.Demand3.Congruence.{same_refl, same_eq, same-sym, same_trans, same_mod, same-plus, same_times, same-opposite, same-difference, difference-same, right_of_sum, left_of_sum}
use Rattle.rules.specs.Satisfiable.{holds}
use Rattle.rules.specs.Symbolic.{Sum, number, word_symbol, plus_each, plus, opposite, opposite_each, negated, minus, same_number, is_zero, same_each, same_sum, Atom, difference, same_atom, constantly, atom, Origin, is_constant, zero_difference, equal_sums}
use Rattle.rules.specs.Symbolic.Laws.{SameAtoms, one_truth, straight, crossed, same_difference, opposites}
use Rattle.rules.proofs.Symbolic.Laws.{same-atoms, congruent_same}
use Rattle.rules.specs.Typings.{At, here, there}
use Rattle.rules.specs.Demand3.Meaning.{Entry, atom_at, entry, location_in, raw, sum_at, truth_in, weigh, word_in}

-- ---- sums

abbrev Same³² : ℕ → ℕ → Type 0
Same³² a b = Same (2 ^ 32) a b

regroup : (a b c d : ℕ) → a + b + (c + d) ≡ a + c + (b + d)
regroup a b c d = omega arith

times_plus : (x y w a b : ℕ) → (x + y) * w + (a + b) ≡ x * w + a + (y * w + b)
times_plus x y w a b = ap (λ (z : ℕ). z + (a + b)) (add-mul x y w) ∙ regroup (x * w) (y * w) a b

weigh-plus : (xs ys : List ℕ) (ρ : List Entry) → Same³² (weigh (plus_each xs ys) ρ) (weigh xs ρ + weigh ys ρ)
unfolding plus_each weigh
weigh-plus [] ys ρ = same_eq (sym (zero-add _))
weigh-plus (x ∷ xs) [] [] = same_refl 0
weigh-plus (x ∷ xs) [] (e ∷ ρ) = same_eq (sym (add-zero _))
weigh-plus (x ∷ xs) (y ∷ ys) [] = same_refl 0
weigh-plus (x ∷ xs) (y ∷ ys) (e ∷ ρ) =
    let w = word_in e.value in
    same_trans (same-plus (same_times w (same_mod (x + y))) (weigh-plus xs ys ρ)) (same_eq (times_plus x y w (weigh xs ρ) (weigh ys ρ)))

abbrev positive : 0 < 2 ^ 32
positive = lit< tt

weigh-opposite : (xs : List ℕ) (ρ : List Entry) → Same³² (weigh (opposite_each xs) ρ + weigh xs ρ) 0
unfolding opposite_each weigh
weigh-opposite [] ρ = same_refl 0
weigh-opposite (x ∷ xs) [] = same_refl 0
weigh-opposite (x ∷ xs) (e ∷ ρ) =
    let w = word_in e.value in
    same_trans (same_eq (sym (times_plus (opposite x) x w (weigh (opposite_each xs) ρ) (weigh xs ρ))))
    (same_trans (same-plus (same_times w (same-opposite x positive)) (weigh-opposite xs ρ)) (same_eq (ap (λ (z : ℕ). z + 0) (zero-mul w))))

raw-plus : (ρ : List Entry) (p q : Sum) → Same³² (raw ρ (plus p q)) (raw ρ p + raw ρ q)
raw-plus ρ p q =
    same_trans (same-plus (same_mod (p.constant + q.constant)) (weigh-plus p.coefficients q.coefficients ρ))
    (same_eq (regroup p.constant q.constant (weigh p.coefficients ρ) (weigh q.coefficients ρ)))

raw-negated : (ρ : List Entry) (p : Sum) → Same³² (raw ρ (negated p) + raw ρ p) 0
raw-negated ρ p =
    same_trans (same_eq (regroup (opposite p.constant) (weigh (opposite_each p.coefficients) ρ) p.constant (weigh p.coefficients ρ)))
    (same-plus (same-opposite p.constant positive) (weigh-opposite p.coefficients ρ))

pub sum_plus : (ρ : List Entry) (p q : Sum) → sum_at ρ (plus p q) ≡ (sum_at ρ p + sum_at ρ q) % 2 ^ 32
unfolding sum_at
sum_plus ρ p q = (same_trans (raw-plus ρ p q) (same-sym (same-plus (same_mod (raw ρ p)) (same_mod (raw ρ q))))).same

pub sum_below : (ρ : List Entry) (p : Sum) → sum_at ρ p < 2 ^ 32
unfolding sum_at
sum_below ρ p = mod-lt (raw ρ p) positive

pub sum_number : (ρ : List Entry) (w : ℕ) → sum_at ρ (number w) ≡ w % 2 ^ 32
unfolding sum_at weigh
sum_number ρ w = ap (λ (x : ℕ). x % 2 ^ 32) (add-zero w)

weigh-symbol : {ρ : List Entry} {s : ℕ} {e : Entry} → At ρ s e → weigh (replicate s 0 ++ (1 ∷ [])) ρ ≡ word_in e.value
unfolding weigh
weigh-symbol (here {x = e}) = omega (arith, one-mul (word_in e.value))
weigh-symbol (there {x = d} {y = e} a) = omega (arith, zero-mul (word_in d.value), weigh-symbol a)

pub sum_symbol : {ρ : List Entry} {s w : ℕ} {o : Origin} → At ρ s (entry o (Word w)) → w < 2 ^ 32 → sum_at ρ (word_symbol s) ≡ w
unfolding sum_at
sum_symbol {ρ} {s} {w} a h = ap (λ (x : ℕ). x % 2 ^ 32) (zero-add _ ∙ weigh-symbol a) ∙ mod-eq_of_lt h

-- ---- equality of sums

zero_same : (x : ℕ) → is_zero x ≡ true → Same³² x 0
zero_same x e = record { same = eqb-true (x % 2 ^ 32) (0 % 2 ^ 32) e }

weigh-zero : (xs : List ℕ) (ρ : List Entry) → all is_zero xs ≡ true → Same³² (weigh xs ρ) 0
unfolding weigh
weigh-zero [] ρ e = same_refl 0
weigh-zero (x ∷ xs) [] e = same_refl 0
weigh-zero (x ∷ xs) (d ∷ ρ) e =
    let h = both_true (is_zero x) (all is_zero xs) e in
    let w = word_in d.value in
    same_trans (same-plus (same_times w (zero_same x h.0)) (weigh-zero xs ρ h.1)) (same_eq (ap (λ (z : ℕ). z + 0) (zero-mul w)))

-- one test decides as another where each follows from the other
pub as_tests : (a b : ℕ) (c d : ℕ) → (a ≡ b → c ≡ d) → (c ≡ d → a ≡ b) → eqb a b ≡ eqb c d
as_tests a b c d f g = go (eqb a b) refl
  where
    go : (t : Bool) → eqb a b ≡ t → eqb a b ≡ eqb c d
    go true e = e ∙ sym (eq-eqb c d (f (eqb-true a b e)))
    go false e = e ∙ sym (ne_eqb c d (λ q. eqb-false a b e (g q)))

zero-difference : (ρ : List Entry) (d : Sum) → holds (atom_at ρ) (zero_difference d) ≡ eqb (sum_at ρ d) 0
unfolding holds atom_at sum_at
zero-difference ρ d = go (is_constant d) refl
  where
    go : (t : Bool) → is_constant d ≡ t → holds (atom_at ρ) (pick t (constantly (is_zero d.constant)) (atom (difference d))) ≡ eqb (sum_at ρ d) 0
    go true e = ap (λ (x : ℕ). eqb x 0) (same_trans (same_eq (sym (add-zero d.constant))) (same-plus (same_refl d.constant) (same-sym (weigh-zero d.coefficients ρ e)))).same
    go false e = refl

-- a number that is 0 once it is reduced
zeroed : (x : ℕ) → x % 2 ^ 32 ≡ 0 → Same³² x 0
zeroed x e = record { same = e ∙ sym (zero-mod (2 ^ 32)) }

pub equal_sums_lem : (ρ : List Entry) (p q : Sum) → holds (atom_at ρ) (equal_sums p q) ≡ eqb (sum_at ρ p) (sum_at ρ q)
unfolding sum_at
equal_sums_lem ρ p q =
    zero-difference ρ (minus p q)
    ∙ as_tests (sum_at ρ (minus p q)) 0 (sum_at ρ p) (sum_at ρ q)
    (λ e. (same-difference (raw ρ (negated q)) (raw-plus ρ p (negated q)) (raw-negated ρ q) (zeroed (raw ρ (minus p q)) e)).same)
    (λ e. (difference-same (raw ρ (negated q)) (raw-plus ρ p (negated q)) (raw-negated ρ q) (record { same = e })).same ∙ zero-mod (2 ^ 32))

-- ---- sameness of atoms

weigh-same : (xs ys : List ℕ) (ρ : List Entry) → same_each xs ys ≡ true → Same³² (weigh xs ρ) (weigh ys ρ)
unfolding same_each weigh
weigh-same [] ys ρ e = same-sym (weigh-zero ys ρ e)
weigh-same (x ∷ xs) [] ρ e = weigh-zero (x ∷ xs) ρ e
weigh-same (x ∷ xs) (y ∷ ys) [] e = same_refl 0
weigh-same (x ∷ xs) (y ∷ ys) (d ∷ ρ) e =
    let h = both_true (same_number x y) (same_each xs ys) e in
    same-plus (same_times (word_in d.value) (record { same = eqb-true (x % 2 ^ 32) (y % 2 ^ 32) h.0 })) (weigh-same xs ys ρ h.1)

same_sums : (ρ : List Entry) (p q : Sum) → same_sum p q ≡ true → sum_at ρ p ≡ sum_at ρ q
unfolding same_sum sum_at
same_sums ρ p q e =
    let h = both_true (same_number p.constant q.constant) (same_each p.coefficients q.coefficients) e in
    (same-plus (record { same = eqb-true (p.constant % 2 ^ 32) (q.constant % 2 ^ 32) h.0 }) (weigh-same p.coefficients q.coefficients ρ h.1)).same

-- a sum is 0 where its negation is
negated-zero : (ρ : List Entry) (q : Sum) → eqb (sum_at ρ (negated q)) 0 ≡ eqb (sum_at ρ q) 0
unfolding sum_at
negated-zero ρ q =
    as_tests (sum_at ρ (negated q)) 0 (sum_at ρ q) 0
    (λ e. (right_of_sum (raw-negated ρ q) (zeroed (raw ρ (negated q)) e)).same ∙ zero-mod (2 ^ 32))
    (λ e. (left_of_sum (raw-negated ρ q) (zeroed (raw ρ q) e)).same ∙ zero-mod (2 ^ 32))

eqb-turned : (a b : ℕ) → eqb a b ≡ eqb b a
eqb-turned a b = as_tests a b b a sym sym

pub atoms_respect : (ρ : List Entry) (x y : Atom) → same_atom x y ≡ true → atom_at ρ x ≡ atom_at ρ y
unfolding atom_at
atoms_respect ρ x y e = go (same-atoms x y e)
  where
    place : ℕ → ℕ
    place k = location_in (get_elem? ρ k)

    go : {x y : Atom} → SameAtoms x y → atom_at ρ x ≡ atom_at ρ y
    go (one_truth q) = ap (λ (k : ℕ). truth_in (get_elem? ρ k)) q
    go (straight {s = s} {u = u} p q) = ap (λ (k : ℕ). eqb (place k) (place s)) p ∙ ap (λ (k : ℕ). eqb (place u) (place k)) q
    go (crossed {s = s} {u = u} {v = v} p q) =
        ap (λ (k : ℕ). eqb (place k) (place s)) p ∙ ap (λ (k : ℕ). eqb (place v) (place k)) q ∙ eqb-turned (place v) (place u)
    go (same_difference {p = p} {q = q} c) = ap (λ (k : ℕ). eqb k 0) (same_sums ρ p q (congruent_same p q c))
    go (opposites {p = p} {q = q} c) = ap (λ (k : ℕ). eqb k 0) (same_sums ρ p (negated q) (congruent_same p (negated q) c)) ∙ negated-zero ρ q
