-- What the code computes of a difference, case by case: each law is what one answer of the code cites. Assumes nothing.
use Rattle.std.specs.Prelude.{◌≡◌, ℕ, zero, suc, ◌+◌, ◌*◌, ◌%◌, ◌^◌, ◌<◌, ◌≤◌, Bool, true, false, not, List, length, take, drop, replicate, ◌==◌, ◌≢◌, nat_lt, slice_index, slice_set}
use Rattle.std.proofs.Math.Path.{refl, ap}
use Rattle.std.proofs.Common.{sym, ◌∙◌, mul-le-mul_left, mul-lt-mul_of_pos_right, lt_of_le_of_lt, le_of_lt, zero-mul, arith, lit<}
use Rattle.std.proofs.Math.ListN.{length-set}
use Rattle.std.proofs.lemmas.Grind.{common_steps, get_or_after_one}
use Rattle.std.proofs.lemmas.Bool.{not-false}
use Rattle.std.proofs.lemmas.Bool.Decides.{same_from_decides}
use Rattle.std.proofs.lemmas.List.{length-replicate, set-get_or, ext_get_or, get_or-take}
use Rattle.std.specs.Bool.{Decides}
use borrow.Author.Tests.{eqb-true, ltb-true, ltb-false, eq-eqb, ne_eqb, lt-ltb, le-ltb}
use Rattle.script.specs.Tests.{pick}
use Rattle.script.specs.Tests.Laws.{both_true, true-both}
use Rattle.terms.specs.Places.{row_limit, symbol_limit}
use Rattle.terms.specs.Search.{nowhere, nowhere-each, each-nowhere}
use Rattle.terms.specs.Terms.{row_in, of_number, of_sum, of_symbol}
use Rattle.terms.specs.declared.Row.{Row}
use Rattle.words.specs.Sums.{place_count, added, joins, is_symbol, spread, gather, passed, rows_to, start_weights, subtracted, no_numbers, numbers_of, constant_numbers, alike, same_numbers, opposite_numbers, Room, Two}

-- ---- tests of numbers

pub differs : (x y : ℕ) → (x ≢ y) → not (x == y) ≡ true
differs x y n = ap not (ne_eqb x y n)

pub agrees : (x y : ℕ) → x ≡ y → not (x == y) ≡ false
agrees x y e = ap not (eq-eqb x y e)

pub product_fits : (v w : ℕ) → v < 2 ^ 32 → w < 2 ^ 32 → v * w < 2 ^ 64
product_fits v w h k = lt_of_le_of_lt (mul-le-mul_left v (le_of_lt k)) (mul-lt-mul_of_pos_right h (lit< tt))

pub not-told : (x y : ℕ) → not (x == y) ≡ false → x ≡ y
not-told x y t = eqb-true x y (not-false (x == y) t)

-- two rows of numbers agree below n
pub agree-nowhere : (f g : ℕ → ℕ) (n : ℕ) (r : Bool) → Decides r ((k : ℕ) → k < n → f k ≡ g k) → r ≡ nowhere (λ k. not (f k == g k)) n
agree-nowhere f g n r d =
    same_from_decides r (nowhere p n) d ((λ t k h. not-told (f k) (g k) (nowhere-each p n t k h)), λ a. each-nowhere p n λ k h. agrees (f k) (g k) (a k h))
  where
    p : ℕ → Bool
    p k = not (f k == g k)

pub equal-same : (xs ys : List ℕ) (r : Bool) → length xs ≡ place_count → length ys ≡ place_count → Decides r (xs ≡ ys) → r ≡ same_numbers xs ys
equal-same xs ys r l m d =
    agree-nowhere (slice_index xs) (slice_index ys) place_count r
    ((λ t k h. ap (λ (zs : List ℕ). slice_index zs k) (d.0 t)), λ a. d.1 (ext_get_or 0 xs ys (l ∙ sym m) (λ k h. a k (omega arith))))

-- the coefficients stand behind the constant
pub rest-constant : (xs ys : List ℕ) (r : Bool) → ys ≡ take symbol_limit (drop 1 xs) → Decides r ((k : ℕ) → k < symbol_limit → slice_index ys k ≡ 0)
    → r ≡ constant_numbers xs
rest-constant xs ys r e d =
    agree-nowhere (λ k. slice_index xs (k + 1)) (λ k. 0) symbol_limit r
    ((λ t k h. sym (behind k h) ∙ d.0 t k h), λ a. d.1 (λ k h. behind k h ∙ a k h))
  where
    behind : (k : ℕ) → k < symbol_limit → slice_index ys k ≡ slice_index xs (k + 1)
    behind k h =
        let q : 1 + k ≡ k + 1 = omega arith in
        rw e (get_or-take symbol_limit (drop 1 xs) k 0 h ∙ get_or_after_one xs k 0 ∙ ap (slice_index xs) q)

-- ---- rows

module _ (row : Row) (op i : ℕ) where
  pub joins_op : (row.op ≢ op) → false ≡ joins row op i
  unfolding joins
  joins_op n = rw (ne_eqb row.op op n) refl

  pub joins_a : row.op ≡ op → i ≤ row.a → false ≡ joins row op i
  unfolding joins
  joins_a e l = rw (eq-eqb row.op op e, le-ltb row.a i l) refl

  pub joins_b : row.op ≡ op → row.a < i → nat_lt row.b i ≡ joins row op i
  unfolding joins
  joins_b e l = rw (eq-eqb row.op op e, lt-ltb row.a i l) refl

-- what the test tells
pub record Joined (row : Row) (op i : ℕ) : Type 0 where
  pub is : row.op ≡ op
  pub first : row.a < i
  pub second : row.b < i

pub joined : (row : Row) (op i : ℕ) → joins row op i ≡ true → Joined row op i
unfolding joins
joined row op i t =
    let u = both_true (row.op == op) _ t in
    let v = both_true (nat_lt row.a i) (nat_lt row.b i) u.1 in
    record { is = eqb-true row.op op u.0; first = ltb-true row.a i v.0; second = ltb-true row.b i v.1 }

pub joined-joins : (row : Row) (op i : ℕ) → Joined row op i → joins row op i ≡ true
unfolding joins
joined-joins row op i j =
    true-both (row.op == op) _ (eq-eqb row.op op j.is)
    (true-both (nat_lt row.a i) (nat_lt row.b i) (lt-ltb row.a i j.first) (lt-ltb row.b i j.second))

pub other-joins : (row : Row) (op i : ℕ) → (row.op ≢ op) → joins row op i ≡ false
other-joins row op i n = sym (joins_op row op i n)

module _ (row : Row) where
  pub symbol_op : (row.op ≢ of_symbol) → false ≡ is_symbol row
  unfolding is_symbol
  symbol_op n = rw (ne_eqb row.op of_symbol n) refl

  pub symbol_a : row.op ≡ of_symbol → nat_lt row.a symbol_limit ≡ is_symbol row
  unfolding is_symbol
  symbol_a e = rw (eq-eqb row.op of_symbol e) refl

-- what the test tells
pub record SymbolOf (row : Row) : Type 0 where
  pub is : row.op ≡ of_symbol
  pub below : row.a < symbol_limit

pub symbol_of : (row : Row) → is_symbol row ≡ true → SymbolOf row
unfolding is_symbol
symbol_of row t =
    let u = both_true (row.op == of_symbol) (nat_lt row.a symbol_limit) t in
    record { is = eqb-true row.op of_symbol u.0; below = ltb-true row.a symbol_limit u.1 }

pub of_symbol_lem : (row : Row) → SymbolOf row → is_symbol row ≡ true
unfolding is_symbol
of_symbol_lem row s =
    true-both (row.op == of_symbol) (nat_lt row.a symbol_limit) (eq-eqb row.op of_symbol s.is) (lt-ltb row.a symbol_limit s.below)

-- ---- weights

pub added-length : (xs : List ℕ) (at v : ℕ) → length (added xs at v) ≡ length xs
added-length xs at v = length-set xs at ((slice_index xs at + v) % 2 ^ 32)

module _ (xs : List ℕ) (row : Row) (i w : ℕ) where
  pub spread_sum : (ys zs : List ℕ) → joins row of_sum i ≡ true → ys ≡ added xs row.a w → zs ≡ added ys row.b w → zs ≡ spread xs row i w
  unfolding spread
  spread_sum ys zs t e f = rw t (f ∙ ap (λ (l : List ℕ). added l row.b w) e)

  pub spread-other : joins row of_sum i ≡ false → xs ≡ spread xs row i w
  unfolding spread
  spread-other t = rw t refl

  pub spread-length : length (spread xs row i w) ≡ length xs
  unfolding spread
  spread-length = go (joins row of_sum i)
    where
      go : (t : Bool) → length (pick t (added (added xs row.a w) row.b w) xs) ≡ length xs
      go true = simp length-set
      go false = refl

module _ (xs : List ℕ) (row : Row) (w : ℕ) where
  pub gather-number : (t : ℕ) (ys : List ℕ) → row.op ≡ of_number → t ≡ w * row.a % 2 ^ 32 → ys ≡ added xs 0 t → ys ≡ gather xs row w
  unfolding gather
  gather-number t ys e f g = rw (eq-eqb row.op of_number e) (g ∙ ap (added xs 0) f)

  pub gather-symbol : (ys : List ℕ) → (row.op ≢ of_number) → is_symbol row ≡ true → ys ≡ added xs (row.a + 1) w → ys ≡ gather xs row w
  unfolding gather
  gather-symbol ys n t e = rw (ne_eqb row.op of_number n, t) e

  pub gather-other : (row.op ≢ of_number) → is_symbol row ≡ false → xs ≡ gather xs row w
  unfolding gather
  gather-other n t = rw (ne_eqb row.op of_number n, t) refl

  pub gather-length : length (gather xs row w) ≡ length xs
  unfolding gather
  gather-length = go (row.op == of_number) (is_symbol row)
    where
      go : (t u : Bool) → length (pick t (added xs 0 (w * row.a % 2 ^ 32)) (pick u (added xs (row.a + 1) w) xs)) ≡ length xs
      go true u = simp length-set
      go false true = simp length-set
      go false false = refl

-- ---- a weight of 0 changes nothing

-- every number is below 2^32
pub record Reduced (xs : List ℕ) : Type 0 where
  pub below : (k : ℕ) → slice_index xs k < 2 ^ 32

added-reduced : (xs : List ℕ) (at v : ℕ) → Reduced xs → Reduced (added xs at v)
added-reduced xs at v h = record { below = λ k. set-below xs at ((slice_index xs at + v) % 2 ^ 32) k (omega arith) (h.below k) }
  where
    set-below : (xs : List ℕ) (at w k : ℕ) → w < 2 ^ 32 → slice_index xs k < 2 ^ 32 → slice_index (slice_set xs at w) k < 2 ^ 32
    set-below xs at w k h l = grind (arith, common_steps)

pub gather-reduced : (xs : List ℕ) (row : Row) (w : ℕ) → Reduced xs → Reduced (gather xs row w)
unfolding gather
gather-reduced xs row w h = go (row.op == of_number) (is_symbol row)
  where
    go : (t u : Bool) → Reduced (pick t (added xs 0 (w * row.a % 2 ^ 32)) (pick u (added xs (row.a + 1) w) xs))
    go true u = added-reduced xs 0 (w * row.a % 2 ^ 32) h
    go false true = added-reduced xs (row.a + 1) w h
    go false false = h

added-zero : (xs : List ℕ) (at : ℕ) → Reduced xs → added xs at 0 ≡ xs
added-zero xs at h = ap (slice_set xs at) (same (slice_index xs at) (h.below at)) ∙ set-get_or xs at 0
  where
    same : (v : ℕ) → v < 2 ^ 32 → (v + 0) % 2 ^ 32 ≡ v
    same v l = omega arith

pub spread-zero : (xs : List ℕ) (row : Row) (i : ℕ) → Reduced xs → spread xs row i 0 ≡ xs
unfolding spread
spread-zero xs row i h = go (joins row of_sum i)
  where
    go : (t : Bool) → pick t (added (added xs row.a 0) row.b 0) xs ≡ xs
    go true = ap (λ (l : List ℕ). added l row.b 0) (added-zero xs row.a h) ∙ added-zero xs row.b h
    go false = refl

pub gather-zero : (xs : List ℕ) (row : Row) → Reduced xs → gather xs row 0 ≡ xs
unfolding gather
gather-zero xs row h = go (row.op == of_number) (is_symbol row)
  where
    go : (t u : Bool) → pick t (added xs 0 (0 * row.a % 2 ^ 32)) (pick u (added xs (row.a + 1) 0) xs) ≡ xs
    go true u = rw (zero-mul row.a) (added-zero xs 0 h)
    go false true = added-zero xs (row.a + 1) h
    go false false = refl

-- ---- the pass

-- after the rows from i on
pub record Passing (ws : List ℕ) (top : ℕ) (weights₀ numbers₀ : List ℕ) (i : ℕ) (weights numbers : List ℕ) : Type 0 where
  pub within : i ≤ top
  pub weighted : length weights ≡ length weights₀
  pub placed : length numbers ≡ length numbers₀
  pub reduced : Reduced numbers
  pub rest : passed ws i weights numbers ≡ passed ws top weights₀ numbers₀

pub passing_start : (ws : List ℕ) (top : ℕ) (weights numbers : List ℕ) → Reduced numbers → Passing ws top weights numbers top weights numbers
passing_start ws top weights numbers h = record { within = omega arith; weighted = refl; placed = refl; reduced = h; rest = refl }

passed-next : (ws : List ℕ) (i j : ℕ) (weights numbers : List ℕ) → i ≡ suc j
    → passed ws i weights numbers
    ≡ passed ws j (spread weights (row_in ws j) j (slice_index weights j)) (gather numbers (row_in ws j) (slice_index weights j))
unfolding passed
passed-next ws i j weights numbers e = rw e refl

pub passing_next : {ws : List ℕ} {top : ℕ} {weights₀ numbers₀ : List ℕ} {i : ℕ} {weights numbers : List ℕ} (j : ℕ) (row : Row) (xs ys : List ℕ)
    → Passing ws top weights₀ numbers₀ i weights numbers → i ≡ suc j → row ≡ row_in ws j
    → xs ≡ spread weights row j (slice_index weights j) → ys ≡ gather numbers row (slice_index weights j) → Reduced ys
    → Passing ws top weights₀ numbers₀ j xs ys
passing_next {ws} {i = i} {weights = weights} {numbers = numbers} j row xs ys p e r s g h = record {
  within = omega arith;
  weighted = ap length s ∙ spread-length weights row j (slice_index weights j) ∙ p.weighted;
  placed = ap length g ∙ gather-length numbers row (slice_index weights j) ∙ p.placed;
  reduced = h;
  rest = rw (s, g, r) (sym (passed-next ws i j weights numbers e) ∙ p.rest);
}

-- a row of weight 0 is left out
pub passing_skip : {ws : List ℕ} {top : ℕ} {weights₀ numbers₀ : List ℕ} {i : ℕ} {weights numbers : List ℕ} (j : ℕ)
    → Passing ws top weights₀ numbers₀ i weights numbers → i ≡ suc j → Reduced weights → slice_index weights j ≡ 0
    → Passing ws top weights₀ numbers₀ j weights numbers
passing_skip {ws} {weights = weights} {numbers = numbers} j p e h z =
    let row = row_in ws j in
    passing_next j row weights numbers p e refl (rw z (sym (spread-zero weights row j h))) (rw z (sym (gather-zero numbers row p.reduced))) p.reduced

pub passing_end : {ws : List ℕ} {top : ℕ} {weights₀ numbers₀ : List ℕ} {i : ℕ} {weights numbers : List ℕ}
    → Passing ws top weights₀ numbers₀ i weights numbers → i ≤ 0 → numbers ≡ passed ws top weights₀ numbers₀
unfolding passed
passing_end {ws} {i = i} {weights = weights} {numbers = numbers} p h =
    let e : i ≡ 0 = omega arith in (rw e at p.rest)

pub passed_length : (ws : List ℕ) (i : ℕ) (weights numbers : List ℕ) → length (passed ws i weights numbers) ≡ length numbers
unfolding passed
passed_length ws zero weights numbers = refl
passed_length ws (suc i) weights numbers = passed_length ws i _ _ ∙ gather-length numbers (row_in ws i) (slice_index weights i)

-- ---- how far the pass goes

pub rows-second : (p q : ℕ) → p < q → q + 1 ≡ rows_to p q
unfolding rows_to
rows-second p q h = rw (lt-ltb p q h) refl

pub rows-first : (p q : ℕ) → q ≤ p → p + 1 ≡ rows_to p q
unfolding rows_to
rows-first p q h = rw (le-ltb p q h) refl

-- both rows are passed, and no row but those up to them
pub record Reach (p q n : ℕ) : Type 0 where
  pub first : p < n
  pub second : q < n
  pub most : (l : ℕ) → p < l → q < l → n ≤ l

pub rows_reach : (p q : ℕ) → Reach p q (rows_to p q)
unfolding rows_to
rows_reach p q = go (nat_lt p q) refl
  where
    go : (t : Bool) → nat_lt p q ≡ t → Reach p q (pick t (q + 1) (p + 1))
    go true e = let h = ltb-true p q e in record { first = omega arith; second = omega arith; most = λ l u v. omega arith }
    go false e = let h = ltb-false p q e in record { first = omega arith; second = omega arith; most = λ l u v. omega arith }

-- ---- the weights at the start

-- the zeros, and after each of the two stores
pub record Started (p q n : ℕ) (weights : List ℕ) : Type 0 where
  pub rows : n ≡ rows_to p q
  pub is : weights ≡ start_weights p q

pub started : (p q n : ℕ) (xs ys : List ℕ) → n ≡ rows_to p q → xs ≡ added (replicate row_limit 0) p 1 → ys ≡ added xs q 4294967295 → Started p q n ys
started p q n xs ys r e f = record { rows = r; is = f ∙ ap (λ (l : List ℕ). added l q 4294967295) e }

-- room for the pass
pub start-room : {ws : List ℕ} {p q n : ℕ} {weights : List ℕ} → Two ws p q → Started p q n weights → Room ws n weights
start-room {p = p} {q = q} t s = record {
  lent = t.lent;
  within = rw s.rows ((rows_reach p q).most row_limit t.first t.second);
  weighted = rw s.is (simp (length-set, length-replicate) (omega arith));
}

pub start-passed : {p q n : ℕ} {weights : List ℕ} (ws numbers ys : List ℕ) → Started p q n weights → ys ≡ passed ws n weights numbers
    → ys ≡ subtracted ws p q numbers
start-passed ws numbers ys s e = rw (s.rows, s.is) at e

pub subtracted-length : (ws : List ℕ) (p q : ℕ) (numbers : List ℕ) → length (subtracted ws p q numbers) ≡ length numbers
subtracted-length ws p q numbers = passed_length ws (rows_to p q) (start_weights p q) numbers

pub numbers-length : (ws : List ℕ) (p q : ℕ) (ys : List ℕ) → ys ≡ numbers_of ws p q → length ys ≡ place_count
numbers-length ws p q ys e = ap length e ∙ subtracted-length ws p q no_numbers

-- ---- one atom

pub alike_same : (xs ys : List ℕ) → same_numbers xs ys ≡ true → true ≡ alike xs ys
unfolding alike
alike_same xs ys t = rw t refl

pub alike-opposite : (xs ys : List ℕ) → same_numbers xs ys ≡ false → opposite_numbers xs ys ≡ alike xs ys
unfolding alike
alike-opposite xs ys t = rw t refl
