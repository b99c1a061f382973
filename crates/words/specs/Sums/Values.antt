-- What the pass computes: at each place, the weights of the rows times the rows' values there. A row's value at place 0 is its constant, at place s + 1 its
-- coefficient of symbol s. Assumes nothing.
use Rattle.std.specs.Prelude.{◌≡◌, ℕ, zero, suc, ◌+◌, ◌*◌, ◌%◌, ◌^◌, ◌<◌, ◌≤◌, Bool, true, false, ◌⊎◌, List, [], ◌∷◌, ◌++◌, length, replicate, ◌==◌, ◌≢◌, slice_index, slice_set}
use Rattle.std.proofs.Common.{inl, inr, sym, ap, ◌∙◌, eq-or-lt_of_le, add-mul, mul-add, mul_assoc, mul-zero, mul-one, get_or-set_same, eqb-true, eq-eqb, ne_eqb}
use Rattle.std.proofs.Math.Path.{refl}
use Rattle.std.proofs.Math.Nat.{zero-mul}
use native.Mathlib.Omega.{arith}
use Rattle.std.proofs.Math.ListN.{length-append, get_or-append}
use Rattle.std.proofs.lemmas.List.{length-replicate, get_or_at}
use Rattle.std.proofs.Math.Seq.{get_or-set_other}
use Rattle.std.proofs.lemmas.Bool.{eqb-false}
use Rattle.script.specs.Tests.{pick}
use Rattle.rules.specs.Demand3.Congruence.{Same}
use Rattle.rules.proofs.Demand3.Congruence.{same_refl, same_eq, same_trans, same_mod, same-plus, same_times}
use Rattle.terms.specs.Places.{row_limit}
use Rattle.terms.specs.Terms.{row_in, of_number, of_sum}
use Rattle.terms.specs.declared.Row.{Row}
use Rattle.words.specs.Sums.{place_count, added, joins, is_symbol, spread, gather, passed, rows_to, start_weights, no_numbers, numbers_of}
use Rattle.words.specs.Sums.Laws.{joined, symbol_of, other-joins, spread_sum, spread-other, spread-length, gather-number, gather-symbol, gather-other, gather-length, added-length, rows_reach}

abbrev pub modulus : ℕ
modulus = 2 ^ 32

-- 1 at its own place, else 0
unfoldable pub unit : ℕ → ℕ → ℕ
unit k at = pick (k == at) 1 0

pub unit-here : (k at : ℕ) → k ≡ at → unit k at ≡ 1
unfolding unit
unit-here k at e = rw (eq-eqb k at e) refl

pub unit-other : (k at : ℕ) → (k ≢ at) → unit k at ≡ 0
unfolding unit
unit-other k at n = rw (ne_eqb k at n) refl

-- ---- what a row is

pub data RowCase (row : Row) (i : ℕ) : Type 0 where
  a_number : row.op ≡ of_number → RowCase row i
  a_symbol : (row.op ≢ of_number) → is_symbol row ≡ true → RowCase row i
  a_sum : (row.op ≢ of_number) → is_symbol row ≡ false → joins row of_sum i ≡ true → RowCase row i
  no_word : (row.op ≢ of_number) → is_symbol row ≡ false → joins row of_sum i ≡ false → RowCase row i

pub case_of : (row : Row) (i : ℕ) → RowCase row i
case_of row i = go (row.op == of_number) refl (is_symbol row) refl (joins row of_sum i) refl
  where
    go : (t : Bool) → (row.op == of_number) ≡ t → (u : Bool) → is_symbol row ≡ u → (v : Bool) → joins row of_sum i ≡ v → RowCase row i
    go true e u f v g = a_number (eqb-true row.op of_number e)
    go false e true f v g = a_symbol (eqb-false row.op of_number e) f
    go false e false f true g = a_sum (eqb-false row.op of_number e) f g
    go false e false f false g = no_word (eqb-false row.op of_number e) f g

-- ---- values

-- by the values of the earlier rows
unfoldable pub row_value : ℕ → Row → ℕ → List ℕ → ℕ
row_value k row i vs =
    pick (row.op == of_number) (row.a * unit k 0)
    (pick (is_symbol row) (unit k (row.a + 1)) (pick (joins row of_sum i) (slice_index vs row.a + slice_index vs row.b) 0))

-- the values of the rows below n
unfoldable pub values : List ℕ → ℕ → ℕ → List ℕ
values ws k zero = []
values ws k (suc n) = values ws k n ++ (row_value k (row_in ws n) n (values ws k n) ∷ [])

unfoldable pub value : List ℕ → ℕ → ℕ → ℕ
value ws k i = row_value k (row_in ws i) i (values ws k i)

module _ (ws : List ℕ) (k : ℕ) where
  values_length : (n : ℕ) → length (values ws k n) ≡ n
  unfolding values
  values_length zero = refl
  values_length (suc n) = length-append (values ws k n) _ ∙ let e = values_length n in omega arith

  values-at : (n a : ℕ) → a < n → slice_index (values ws k n) a ≡ value ws k a
  unfolding values value
  values-at zero a h = absurd (omega arith)
  values-at (suc n) a h = go (eq-or-lt_of_le (omega arith)) (values_length n) (values-at n a)
    where
      go : (a ≡ n) ⊎ (a < n) → length (values ws k n) ≡ n → (a < n → slice_index (values ws k n) a ≡ value ws k a)
          → slice_index (values ws k n ++ (row_value k (row_in ws n) n (values ws k n) ∷ [])) a ≡ value ws k a
      go (inl e) l f = rw e (get_or_at (values ws k n) _ [] 0 n l)
      go (inr l) e f = get_or-append (values ws k n) _ 0 a (omega arith) ∙ f l

  pub value-number : (i : ℕ) → (row_in ws i).op ≡ of_number → value ws k i ≡ (row_in ws i).a * unit k 0
  unfolding value row_value
  value-number i e = rw (eq-eqb (row_in ws i).op of_number e) refl

  pub value-symbol : (i : ℕ) → ((row_in ws i).op ≢ of_number) → is_symbol (row_in ws i) ≡ true → value ws k i ≡ unit k ((row_in ws i).a + 1)
  unfolding value row_value
  value-symbol i n t = rw (ne_eqb (row_in ws i).op of_number n, t) refl

  pub value_sum : (i : ℕ) → ((row_in ws i).op ≢ of_number) → is_symbol (row_in ws i) ≡ false → joins (row_in ws i) of_sum i ≡ true
      → value ws k i ≡ value ws k (row_in ws i).a + value ws k (row_in ws i).b
  unfolding value row_value
  value_sum i n t j =
      let w = joined (row_in ws i) 2 i j in
      rw (ne_eqb (row_in ws i).op of_number n, t, j, values-at i (row_in ws i).a w.first, values-at i (row_in ws i).b w.second) refl

  pub value_none : (i : ℕ) → ((row_in ws i).op ≢ of_number) → is_symbol (row_in ws i) ≡ false → joins (row_in ws i) of_sum i ≡ false → value ws k i ≡ 0
  unfolding value row_value
  value_none i n t j = rw (ne_eqb (row_in ws i).op of_number n, t, j) refl

-- ---- weights times values

unfoldable pub dot : List ℕ → (ℕ → ℕ) → ℕ → ℕ
dot xs v zero = 0
dot xs v (suc n) = dot xs v n + slice_index xs n * v n

zeros-at : (m i : ℕ) → ◌≡◌ {A = ℕ} (slice_index (replicate m 0) i) 0
zeros-at zero i = refl
zeros-at (suc m) zero = refl
zeros-at (suc m) (suc i) = zeros-at m i

module _ (v : ℕ → ℕ) where
  dot-above : (xs : List ℕ) (a y n : ℕ) → n ≤ a → dot (slice_set xs a y) v n ≡ dot xs v n
  unfolding dot
  dot-above xs a y zero h = refl
  dot-above xs a y (suc n) h =
      rw (dot-above xs a y n (omega arith), get_or-set_other xs a n y 0 (λ e. omega arith)) refl

  -- w more at a place is w times its value more
  pub dot-added : (xs : List ℕ) (a w n : ℕ) → a < n → a < length xs → Same modulus (dot (added xs a w) v n) (dot xs v n + w * v a)
  unfolding dot
  dot-added xs a w zero h l = absurd (omega arith)
  dot-added xs a w (suc n) h l = go (eq-or-lt_of_le (omega arith)) (dot-added xs a w n)
    where
      regroup : (d p q : ℕ) → d + (p + q) ≡ d + p + q
      regroup d p q = omega arith

      swap : (d p q : ℕ) → d + p + q ≡ d + q + p
      swap d p q = omega arith

      go : (a ≡ n) ⊎ (a < n) → (a < n → a < length xs → Same modulus (dot (added xs a w) v n) (dot xs v n + w * v a))
          → Same modulus (dot (added xs a w) v n + slice_index (added xs a w) n * v n) (dot xs v n + slice_index xs n * v n + w * v a)
      go (inl e) f =
          rw (sym e, dot-above xs a ((slice_index xs a + w) % 2 ^ 32) a (omega arith), get_or-set_same xs a ((slice_index xs a + w) % 2 ^ 32) 0 l)
          (same_trans (same-plus (same_refl (dot xs v a)) (same_times (v a) (same_mod (slice_index xs a + w))))
          (same_eq (ap (λ (z : ℕ). dot xs v a + z) (add-mul (slice_index xs a) w (v a)) ∙ regroup _ _ _)))
      go (inr g) f =
          rw (get_or-set_other xs a n ((slice_index xs a + w) % 2 ^ 32) 0 (λ e. omega arith))
          (same_trans (same-plus (f g l) (same_refl (slice_index xs n * v n))) (same_eq (swap _ _ _)))

  dot-zeros : (m n : ℕ) → dot (replicate m 0) v n ≡ 0
  unfolding dot
  dot-zeros m zero = refl
  dot-zeros m (suc n) = rw (dot-zeros m n, zeros-at m n) (omega (arith, zero-mul (v n)))

-- ---- the pass

-- y more at a place
add_unit : (xs : List ℕ) (at y k : ℕ) → at < length xs → Same modulus (slice_index (added xs at y) k) (slice_index xs k + y * unit k at)
add_unit xs at y k h = go (k == at) refl
  where
    go : (t : Bool) → (k == at) ≡ t → Same modulus (slice_index (added xs at y) k) (slice_index xs k + y * unit k at)
    go true e =
        let f = eqb-true k at e in
        rw (unit-here k at f, f, get_or-set_same xs at ((slice_index xs at + y) % 2 ^ 32) 0 h, mul-one y) (same_mod (slice_index xs at + y))
    go false e =
        let n = eqb-false k at e in
        rw (unit-other k at n, get_or-set_other xs at k ((slice_index xs at + y) % 2 ^ 32) 0 n, mul-zero y) (same_eq (omega arith))

-- one row: what it adds goes from its weight w to the numbers, or to the weights of its operands
module _ (ws : List ℕ) (k i w : ℕ) (weights numbers : List ℕ) (h : i < length weights) (l : place_count ≤ length numbers) where
  abbrev before_row : ℕ
  before_row = dot weights (value ws k) i + w * value ws k i + slice_index numbers k

  abbrev after_row : ℕ
  after_row = dot (spread weights (row_in ws i) i w) (value ws k) i + slice_index (gather numbers (row_in ws i) w) k

  later : (d x y : ℕ) → d + (x + y) ≡ d + y + x
  later d x y = omega arith

  pass-number : (row_in ws i).op ≡ of_number → Same modulus after_row before_row
  pass-number e =
      let j = other-joins (row_in ws i) of_sum i (λ f. omega arith) in
      let y = w * (row_in ws i).a in
      rw (sym (spread-other weights (row_in ws i) i w j), sym (gather-number numbers (row_in ws i) w _ _ e refl refl), value-number ws k i e, sym (mul_assoc w (row_in ws i).a (unit k 0)), sym (later (dot weights (value ws k) i) (slice_index numbers k) (y * unit k 0)))
      (same-plus (same_refl (dot weights (value ws k) i))
      (same_trans (add_unit numbers 0 (y % 2 ^ 32) k (omega arith)) (same-plus (same_refl (slice_index numbers k)) (same_times (unit k 0) (same_mod y)))))

  pass-symbol : ((row_in ws i).op ≢ of_number) → is_symbol (row_in ws i) ≡ true → Same modulus after_row before_row
  pass-symbol n t =
      let u = symbol_of (row_in ws i) t in
      let j = other-joins (row_in ws i) of_sum i (λ f. omega arith) in
      rw (sym (spread-other weights (row_in ws i) i w j), sym (gather-symbol numbers (row_in ws i) w _ n t refl), value-symbol ws k i n t, sym (later (dot weights (value ws k) i) (slice_index numbers k) (w * unit k ((row_in ws i).a + 1))))
      (same-plus (same_refl (dot weights (value ws k) i)) (add_unit numbers ((row_in ws i).a + 1) w k (omega arith)))

  pass_sum : ((row_in ws i).op ≢ of_number) → is_symbol (row_in ws i) ≡ false → joins (row_in ws i) of_sum i ≡ true → Same modulus after_row before_row
  pass_sum n t j =
      let u = joined (row_in ws i) 2 i j in
      let a = (row_in ws i).a in
      let b = (row_in ws i).b in
      let m = added-length weights a w in
      let one = dot-added (value ws k) weights a w i u.first (omega arith) in
      let two = dot-added (value ws k) (added weights a w) b w i u.second (omega arith) in
      rw (sym (spread_sum weights (row_in ws i) i w _ _ j refl refl), sym (gather-other numbers (row_in ws i) w n t), value_sum ws k i n t j, mul-add w (value ws k a) (value ws k b))
      (same-plus (same_trans two (same_trans (same-plus one (same_refl (w * value ws k b))) (same_eq (omega arith)))) (same_refl (slice_index numbers k)))

  pass-none : ((row_in ws i).op ≢ of_number) → is_symbol (row_in ws i) ≡ false → joins (row_in ws i) of_sum i ≡ false → Same modulus after_row before_row
  pass-none n t j =
      rw (sym (spread-other weights (row_in ws i) i w j), sym (gather-other numbers (row_in ws i) w n t), value_none ws k i n t j, mul-zero w)
      (same_eq (omega arith))

  pass-row : RowCase (row_in ws i) i → Same modulus after_row before_row
  pass-row (a_number e) = pass-number e
  pass-row (a_symbol n t) = pass-symbol n t
  pass-row (a_sum n t j) = pass_sum n t j
  pass-row (no_word n t j) = pass-none n t j

module _ (ws : List ℕ) (k : ℕ) where
  -- all rows below i
  pub passed-value : (i : ℕ) (weights numbers : List ℕ) → i ≤ length weights → place_count ≤ length numbers
      → Same modulus (slice_index (passed ws i weights numbers) k) (dot weights (value ws k) i + slice_index numbers k)
  unfolding passed dot
  passed-value zero weights numbers h l = same_eq (omega arith)
  passed-value (suc i) weights numbers h l =
      let a = spread-length weights (row_in ws i) i (slice_index weights i) in
      let b = gather-length numbers (row_in ws i) (slice_index weights i) in
      same_trans (passed-value i (spread weights (row_in ws i) i (slice_index weights i)) (gather numbers (row_in ws i) (slice_index weights i)) (omega arith) (omega arith))
      (pass-row ws k i (slice_index weights i) weights numbers (omega arith) l (case_of (row_in ws i) i))

  -- the numbers of row p less row q
  pub numbers-value : (p q : ℕ) → p < row_limit → q < row_limit
      → Same modulus (slice_index (numbers_of ws p q) k) (value ws k p + 4294967295 * value ws k q)
  numbers-value p q h l =
      let n = rows_to p q in
      let r = rows_reach p q in
      let m : rows_to p q ≤ row_limit = r.most row_limit h l in
      let z = length-replicate {A = ℕ} row_limit 0 in
      let a = added-length (replicate row_limit 0) p 1 in
      let b = added-length (added (replicate row_limit 0) p 1) q 4294967295 in
      same_trans (passed-value n (start_weights p q) no_numbers (omega arith) (omega (arith, length-replicate {A = ℕ} place_count 0)))
      (same_trans (same-plus (same_trans (dot-added (value ws k) (added (replicate row_limit 0) p 1) q 4294967295 n r.second (omega arith))
      (same-plus (dot-added (value ws k) (replicate row_limit 0) p 1 n r.first (omega arith)) (same_refl (4294967295 * value ws k q)))) (same_refl (slice_index no_numbers k)))
      (same_eq (ends (dot (replicate row_limit 0) (value ws k) n) (value ws k p) (value ws k q) (slice_index no_numbers k) (dot-zeros (value ws k) row_limit n) (zeros-at place_count k))))
    where
      ends : (d x y e : ℕ) → d ≡ 0 → e ≡ 0 → d + 1 * x + 4294967295 * y + e ≡ x + 4294967295 * y
      ends d x y e f g = omega arith
