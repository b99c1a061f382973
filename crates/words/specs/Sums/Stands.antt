-- The numbers that the code computes of two words stand for the words' difference in the symbolic rules, and the code's tests of such numbers are the
-- rules' tests of differences. Assumes nothing.
use Rattle.std.specs.Prelude.{◌≡◌, ℕ, zero, suc, ◌+◌, ◌*◌, ◌%◌, ◌^◌, ◌<◌, ◌≤◌, Bool, true, false, ◌⊎◌, List, [], ◌∷◌, ◌++◌, length, replicate, ◌==◌, nat_eq, nat_lt, slice_index, slice_index_or, refl}
use Rattle.std.proofs.Common.{inl, inr, sym, ap, ◌∙◌, mul-zero, mul-one, mod-eq_of_lt, mod-lt, add-one, arith, lit<, get_or-set_same, get_or-set_other, eqb-true, eq-eqb, ltb-true, ltb-false}
use Rattle.std.proofs.Math.Nat.{mul-mod_right, zero-mod}
use Rattle.std.proofs.Math.Dec.{eqb-suc-suc, eqb-zero-suc, eqb-suc-zero}
use Rattle.std.proofs.lemmas.List.{length-replicate}
use Rattle.std.proofs.lemmas.Bool.{eqb-false}
use Rattle.script.specs.Tests.Laws.{both_ways, or_cases, or_first, or_second}
use Rattle.rules.specs.Demand3.Congruence.{Same}
use Rattle.rules.proofs.Demand3.Congruence.{same_refl, same_eq, same-sym, same_trans, same_mod, same-plus, same-opposite}
use Rattle.rules.specs.Symbolic.{Sum, plus, plus_each, opposite, opposite_each, negated, minus, is_zero, is_constant, difference}
use Rattle.rules.specs.Symbolic.Laws.{Congruent, SameAtoms}
use Rattle.rules.proofs.Symbolic.Laws.{all-zero, zero-all, opposite-at, opposite-same}
use Rattle.terms.specs.Places.{row_limit, symbol_limit}
use Rattle.terms.specs.Search.{nowhere-each, each-nowhere}
use Rattle.terms.specs.Terms.{row_in, SumRow, of_sum}
use Rattle.words.specs.Sums.{place_count, added, gather, spread, passed, numbers_of, no_numbers, rows_to, start_weights, has_symbol, constant_numbers, differs_at, same_numbers, remains_at, opposite_numbers, alike}
use Rattle.words.specs.Sums.Laws.{agrees, not-told, symbol_of, of_symbol_lem, joined-joins, gather-number, gather-symbol, gather-other, gather-length, symbol_op}
use Rattle.words.specs.Sums.Values.{modulus, unit, unit-here, unit-other, RowCase, case_of, value, value-number, value-symbol, value_sum, numbers-value}

-- ---- numbers modulo 2^32

-- what cancels the same number
same_cancel : {a b : ℕ} (x : ℕ) → Same modulus (a + x) 0 → Same modulus (b + x) 0 → Same modulus a b
same_cancel {a} {b} x e f =
    same_trans (same_eq (omega arith)) (same_trans (same-plus (same_refl a) (same-sym f)) (same_trans (same_eq (regroup a b x))
    (same_trans (same-plus e (same_refl b)) (same_eq (omega arith)))))
  where
    regroup : (a b x : ℕ) → a + (b + x) ≡ a + x + b
    regroup a b x = omega arith

opposite_cancels : (x : ℕ) → Same modulus (opposite x + x) 0
opposite_cancels x = same-opposite x (lit< tt)

-- 2^32 less 1 times a number is its opposite
less_opposite : (x : ℕ) → Same modulus (4294967295 * x) (opposite x)
less_opposite x = same_cancel x (same_trans (same_eq (whole x)) (record { same = mul-mod_right modulus x })) (opposite_cancels x)
  where
    whole : (x : ℕ) → 4294967295 * x + x ≡ 4294967296 * x
    whole x = omega arith

same-opposites : {x y : ℕ} → Same modulus x y → Same modulus (opposite x) (opposite y)
same-opposites {x} {y} e = same_eq (opposite-same x y e.same)

-- ---- places of a sum

-- its constant, and then its coefficients
abbrev pub place_in : Sum → ℕ → ℕ
place_in p zero = p.constant
place_in p (suc i) = slice_index p.coefficients i

plus-at : (xs ys : List ℕ) (i : ℕ) → Same modulus (slice_index (plus_each xs ys) i) (slice_index xs i + slice_index ys i)
unfolding plus_each
plus-at [] ys i = same_eq (omega arith)
plus-at (x ∷ xs) [] i = same_eq (omega arith)
plus-at (x ∷ xs) (y ∷ ys) zero = same_mod (x + y)
plus-at (x ∷ xs) (y ∷ ys) (suc i) = plus-at xs ys i

plus-zero : (xs ys : List ℕ) (i : ℕ) → slice_index xs i ≡ 0 → slice_index ys i ≡ 0 → slice_index (plus_each xs ys) i ≡ 0
unfolding plus_each
plus-zero [] ys i e f = f
plus-zero (x ∷ xs) [] i e f = e
plus-zero (x ∷ xs) (y ∷ ys) zero e f = rw (e, f) refl
plus-zero (x ∷ xs) (y ∷ ys) (suc i) e f = plus-zero xs ys i e f

plus-place : (p q : Sum) (k : ℕ) → Same modulus (place_in (plus p q) k) (place_in p k + place_in q k)
plus-place p q zero = same_mod (p.constant + q.constant)
plus-place p q (suc i) = plus-at p.coefficients q.coefficients i

negated-place : (p : Sum) (k : ℕ) → place_in (negated p) k ≡ opposite (place_in p k)
negated-place p zero = refl
negated-place p (suc i) = opposite-at p.coefficients i

minus-place : (p q : Sum) (k : ℕ) → Same modulus (place_in (minus p q) k) (place_in p k + opposite (place_in q k))
minus-place p q k = same_trans (plus-place p (negated q) k) (same-plus (same_refl (place_in p k)) (same_eq (negated-place q k)))

symbol-at : (s i : ℕ) → slice_index (replicate s 0 ++ (1 ∷ [])) i ≡ unit i s
unfolding unit
symbol-at zero zero = refl
symbol-at zero (suc i) = rw (eqb-suc-zero i) refl
symbol-at (suc s) zero = rw (eqb-zero-suc s) refl
symbol-at (suc s) (suc i) = rw (eqb-suc-suc i s) (symbol-at s i)

unit-suc : (k at : ℕ) → unit (suc k) (at + 1) ≡ unit k at
unfolding unit
unit-suc k at = rw (add-one at, eqb-suc-suc k at) refl

-- ---- the value of a row that is a word

module _ {ws : List ℕ} where
  pub value-stands : {i : ℕ} {p : Sum} (k : ℕ) → SumRow ws i p → Same modulus (value ws k i) (place_in p k)
  value-stands zero (SumRow.number_row {i = i} e f) =
      rw (value-number ws zero i e, unit-here 0 0 refl, mul-one (row_in ws i).a) (same_eq f)
  value-stands (suc k) (SumRow.number_row {i = i} e f) =
      rw (value-number ws (suc k) i e, unit-other (suc k) 0 (λ z. omega arith), mul-zero (row_in ws i).a) (same_refl 0)
  value-stands zero (SumRow.symbol_row {i = i} {s = s} e f l) =
      rw (value-symbol ws zero i (λ z. omega arith) (of_symbol_lem (row_in ws i) (record { is = e; below = omega arith })), unit-other 0 ((row_in ws i).a + 1) (λ z. omega arith))
      (same_refl 0)
  value-stands (suc k) (SumRow.symbol_row {i = i} {s = s} e f l) =
      rw (value-symbol ws (suc k) i (λ z. omega arith) (of_symbol_lem (row_in ws i) (record { is = e; below = omega arith })), f)
      (same_eq (unit-suc k s ∙ sym (symbol-at s k)))
  value-stands k (SumRow.plus_row {i = i} {p = p} {q = q} e f g l m u v) =
      rw (value_sum ws k i (λ z. omega arith) (sym (symbol_op (row_in ws i) (λ z. omega arith))) (joined-joins (row_in ws i) of_sum i (record { is = e; first = omega arith; second = omega arith })), f, g)
      (same_trans (same-plus (value-stands k u) (value-stands k v)) (same-sym (plus-place p q k)))

  -- no symbol beyond the last
  pub row-narrow : {i : ℕ} {p : Sum} → SumRow ws i p → (j : ℕ) → symbol_limit ≤ j → slice_index p.coefficients j ≡ 0
  row-narrow (SumRow.number_row e f) j h = refl
  row-narrow (SumRow.symbol_row {s = s} e f l) j h = symbol-at s j ∙ unit-other j s (λ z. omega arith)
  row-narrow (SumRow.plus_row {p = p} {q = q} e f g l m u v) j h =
      plus-zero p.coefficients q.coefficients j (row-narrow u j h) (row-narrow v j h)

-- ---- numbers that stand for a sum

pub record Stands (xs : List ℕ) (d : Sum) : Type 0 where
  pub at : (k : ℕ) → k < place_count → Same modulus (slice_index xs k) (place_in d k)
  pub small : (k : ℕ) → slice_index xs k < modulus
  pub narrow : (j : ℕ) → symbol_limit ≤ j → slice_index d.coefficients j ≡ 0

small-added : (xs : List ℕ) (at y : ℕ) → at < length xs → ((k : ℕ) → slice_index xs k < modulus) → (k : ℕ) → slice_index (added xs at y) k < modulus
small-added xs at y h small k = go (k == at) refl
  where
    go : (t : Bool) → (k == at) ≡ t → slice_index (added xs at y) k < modulus
    go true e = rw (eqb-true k at e, get_or-set_same xs at ((slice_index xs at + y) % 2 ^ 32) 0 h) (mod-lt (slice_index xs at + y) (lit< tt))
    go false e = rw (get_or-set_other xs at k ((slice_index xs at + y) % 2 ^ 32) 0 (eqb-false k at e)) (small k)

small-gather : (ws xs : List ℕ) (i w : ℕ) → place_count ≤ length xs → ((k : ℕ) → slice_index xs k < modulus) → (k : ℕ) → slice_index (gather xs (row_in ws i) w) k < modulus
small-gather ws xs i w h small k = go (case_of (row_in ws i) i)
  where
    go : RowCase (row_in ws i) i → slice_index (gather xs (row_in ws i) w) k < modulus
    go (RowCase.a_number e) =
        rw (sym (gather-number xs (row_in ws i) w _ _ e refl refl)) (small-added xs 0 (w * (row_in ws i).a % 2 ^ 32) (omega arith) small k)
    go (RowCase.a_symbol n t) =
        let s = symbol_of (row_in ws i) t in
        rw (sym (gather-symbol xs (row_in ws i) w _ n t refl)) (small-added xs ((row_in ws i).a + 1) w (omega arith) small k)
    go (RowCase.a_sum n t j) = rw (sym (gather-other xs (row_in ws i) w n t)) (small k)
    go (RowCase.no_word n t j) = rw (sym (gather-other xs (row_in ws i) w n t)) (small k)

small-passed : (ws : List ℕ) (i : ℕ) (weights xs : List ℕ) → place_count ≤ length xs → ((k : ℕ) → slice_index xs k < modulus)
    → (k : ℕ) → slice_index (passed ws i weights xs) k < modulus
unfolding passed
small-passed ws zero weights xs h small k = small k
small-passed ws (suc i) weights xs h small k =
    let l = gather-length xs (row_in ws i) (slice_index weights i) in
    small-passed ws i (spread weights (row_in ws i) i (slice_index weights i)) (gather xs (row_in ws i) (slice_index weights i)) (omega arith)
    (small-gather ws xs i (slice_index weights i) h small) k

zeros-small : (n k : ℕ) → slice_index (replicate n 0) k < modulus
zeros-small zero k = lit< tt
zeros-small (suc n) zero = lit< tt
zeros-small (suc n) (suc k) = zeros-small n k

-- the numbers of two rows that are words
pub numbers_stand : {ws : List ℕ} {i j : ℕ} {p q : Sum} → SumRow ws i p → SumRow ws j q → i < row_limit → j < row_limit → Stands (numbers_of ws i j) (minus p q)
numbers_stand {ws} {i} {j} {p} {q} u v h l = record {
  at = λ k b.
      same_trans (numbers-value ws k i j h l)
      (same_trans (same-plus (value-stands k u) (same_trans (less_opposite (value ws k j)) (same-opposites (value-stands k v)))) (same-sym (minus-place p q k)));
  small = small-passed ws (rows_to i j) (start_weights i j) no_numbers (omega (arith, length-replicate {A = ℕ} place_count 0)) (zeros-small place_count);
  narrow = λ k b.
      plus-zero p.coefficients (opposite_each q.coefficients) k (row-narrow u k b)
      (opposite-at q.coefficients k ∙ rw (row-narrow v k b) refl);
}

-- ---- tests

-- equal modulo 2^32 and below it
small_same : (x y : ℕ) → x < modulus → y < modulus → Same modulus x y → x ≡ y
small_same x y h l e = sym (mod-eq_of_lt h) ∙ e.same ∙ mod-eq_of_lt l

small-zero : (x : ℕ) → x < modulus → Same modulus x 0 → x ≡ 0
small-zero x h e = sym (mod-eq_of_lt h) ∙ e.same ∙ zero-mod modulus

-- a place within, or beyond the last symbol
within : (i : ℕ) → (i < symbol_limit) ⊎ (symbol_limit ≤ i)
within i = go (nat_lt i symbol_limit) refl
  where
    go : (t : Bool) → nat_lt i symbol_limit ≡ t → (i < symbol_limit) ⊎ (symbol_limit ≤ i)
    go true e = inl (ltb-true i symbol_limit e)
    go false e = inr (ltb-false i symbol_limit e)

module _ {xs : List ℕ} {d : Sum} (s : Stands xs d) where
  constant-told : constant_numbers xs ≡ true → is_constant d ≡ true
  constant-told t = zero-all d.coefficients λ i. go i (within i)
    where
      go : (i : ℕ) → (i < symbol_limit) ⊎ (symbol_limit ≤ i) → slice_index d.coefficients i % 2 ^ 32 ≡ 0
      go i (inl h) =
          let e : slice_index_or xs (suc i) 0 ≡ 0 = rw (add-one i) at (not-told (slice_index xs (i + 1)) 0 (nowhere-each (has_symbol xs) symbol_limit t i h)) in
          sym (s.at (suc i) (omega arith)).same ∙ rw e refl
      go i (inr h) = rw (s.narrow i h) refl

  told-constant : is_constant d ≡ true → constant_numbers xs ≡ true
  told-constant t = each-nowhere (has_symbol xs) symbol_limit λ i h. agrees (slice_index xs (i + 1)) 0 (rw (add-one i) (zero-at i h))
    where
      zero-at : (i : ℕ) → i < symbol_limit → slice_index xs (suc i) ≡ 0
      zero-at i h =
          small-zero (slice_index xs (suc i)) (s.small (suc i))
          (same_trans (s.at (suc i) (omega arith)) (record { same = all-zero d.coefficients t i ∙ sym (zero-mod modulus) }))

  pub stands-constant : constant_numbers xs ≡ is_constant d
  stands-constant = both_ways (constant_numbers xs) (is_constant d) constant-told told-constant

  pub stands-zero : nat_eq (slice_index xs 0) 0 ≡ is_zero d.constant
  stands-zero = both_ways (slice_index xs 0 == 0) (is_zero d.constant)
      (λ t. eq-eqb (d.constant % 2 ^ 32) (0 % 2 ^ 32) (sym (s.at 0 (omega arith)).same ∙ rw (eqb-true (slice_index xs 0) 0 t) refl))
      (λ t. eq-eqb (slice_index xs 0) 0 (small-zero (slice_index xs 0) (s.small 0)
      (same_trans (s.at 0 (omega arith)) (record { same = eqb-true (d.constant % 2 ^ 32) (0 % 2 ^ 32) t }))))

module _ {xs ys : List ℕ} {d e : Sum} (s : Stands xs d) (u : Stands ys e) where
  same-told : same_numbers xs ys ≡ true → Congruent d e
  same-told t = record { constants = at_place 0 (omega arith); each = λ i. go i (within i) }
    where
      at_place : (k : ℕ) → k < place_count → place_in d k % 2 ^ 32 ≡ place_in e k % 2 ^ 32
      at_place k h =
          let f = not-told (slice_index xs k) (slice_index ys k) (nowhere-each (differs_at xs ys) place_count t k h) in
          sym (s.at k h).same ∙ ap (λ (z : ℕ). z % 2 ^ 32) f ∙ (u.at k h).same

      go : (i : ℕ) → (i < symbol_limit) ⊎ (symbol_limit ≤ i) → slice_index d.coefficients i % 2 ^ 32 ≡ slice_index e.coefficients i % 2 ^ 32
      go i (inl h) = at_place (suc i) (omega arith)
      go i (inr h) = rw (s.narrow i h, u.narrow i h) refl

  congruent_place : Congruent d e → (k : ℕ) → Same modulus (place_in d k) (place_in e k)
  congruent_place c zero = record { same = c.constants }
  congruent_place c (suc i) = record { same = c.each i }

  told_same : Congruent d e → same_numbers xs ys ≡ true
  told_same c = each-nowhere (differs_at xs ys) place_count λ k h.
      agrees (slice_index xs k) (slice_index ys k) (small_same (slice_index xs k) (slice_index ys k) (s.small k) (u.small k)
      (same_trans (s.at k h) (same_trans (congruent_place c k) (same-sym (u.at k h)))))

  opposite-told : opposite_numbers xs ys ≡ true → Congruent d (negated e)
  opposite-told t = record { constants = at_place 0 (omega arith); each = λ i. go i (within i) }
    where
      at_place : (k : ℕ) → k < place_count → place_in d k % 2 ^ 32 ≡ place_in (negated e) k % 2 ^ 32
      at_place k h =
          let f = not-told ((slice_index xs k + slice_index ys k) % 2 ^ 32) 0 (nowhere-each (remains_at xs ys) place_count t k h) in
          let z : Same modulus (slice_index xs k + slice_index ys k) 0 = record { same = f ∙ sym (zero-mod modulus) } in
          (same_trans (same-sym (s.at k h)) (same_trans (same_cancel (slice_index ys k) z (opposite_cancels (slice_index ys k)))
          (same_trans (same-opposites (u.at k h)) (same_eq (sym (negated-place e k)))))).same

      go : (i : ℕ) → (i < symbol_limit) ⊎ (symbol_limit ≤ i) → slice_index d.coefficients i % 2 ^ 32 ≡ slice_index (negated e).coefficients i % 2 ^ 32
      go i (inl h) = at_place (suc i) (omega arith)
      go i (inr h) = rw (s.narrow i h, opposite-at e.coefficients i, u.narrow i h) refl

  negated_congruent : Congruent d (negated e) → (k : ℕ) → Same modulus (place_in d k) (opposite (place_in e k))
  negated_congruent c zero = record { same = c.constants }
  negated_congruent c (suc i) = record { same = c.each i ∙ ap (λ (z : ℕ). z % 2 ^ 32) (opposite-at e.coefficients i) }

  told-opposite : Congruent d (negated e) → opposite_numbers xs ys ≡ true
  told-opposite c = each-nowhere (remains_at xs ys) place_count λ k h.
      agrees ((slice_index xs k + slice_index ys k) % 2 ^ 32) 0
      ((same_trans (same-plus (same_trans (s.at k h) (negated_congruent c k)) (u.at k h)) (opposite_cancels (place_in e k))).same ∙ zero-mod modulus)

  -- the code's test is sameness of atoms
  pub alike-told : alike xs ys ≡ true → SameAtoms (difference d) (difference e)
  unfolding alike
  alike-told t = go (or_cases (same_numbers xs ys) (opposite_numbers xs ys) t)
    where
      go : (same_numbers xs ys ≡ true) ⊎ (opposite_numbers xs ys ≡ true) → SameAtoms (difference d) (difference e)
      go (inl h) = SameAtoms.same_difference (same-told h)
      go (inr h) = SameAtoms.opposites (opposite-told h)

  pub told-alike : SameAtoms (difference d) (difference e) → alike xs ys ≡ true
  unfolding alike
  told-alike (SameAtoms.same_difference c) = or_first (same_numbers xs ys) (opposite_numbers xs ys) (told_same c)
  told-alike (SameAtoms.opposites c) = or_second (same_numbers xs ys) (opposite_numbers xs ys) (told-opposite c)
