-- What the code answers of equal words, case by case: each law is what one answer of the code cites. Assumes nothing.
use Rattle.std.specs.Prelude.{◌≡◌, ℕ, ◌<◌, Bool, true, false, List, length, ◌==◌, ◌≢◌, slice_index}
use Rattle.std.proofs.Math.Path.{refl}
use Rattle.std.proofs.Common.{ap, arith, length-set}
use borrow.Author.Tests.{eq-eqb, ne_eqb}
use Rattle.script.specs.Tests.{pick}
use Rattle.terms.specs.Atoms.Laws.{found-length}
use Rattle.terms.specs.Terms.{row_in, count_in, Space, pushed, bit_of, of_constant, of_difference}
use Rattle.terms.specs.declared.Row.{Row}
use Rattle.words.specs.Sums.{joins, numbers_of, constant_numbers, Two}
use Rattle.words.specs.Sums.Laws.{joined}
use Rattle.words.specs.Words.{is_wanted, is_found, difference_row_of, difference_left, equal_row, equal_left, Rows, Words}

-- ---- differences

module _ (ws wanted : List ℕ) (i : ℕ) (row : Row) (e : row ≡ row_in ws i) where
  pub found-difference : (r : Bool) → joins row of_difference i ≡ true → r ≡ is_wanted ws wanted row.a row.b → r ≡ is_found ws wanted i
  unfolding is_found
  found-difference r t f = rw (rw e at t) (rw e at f)

  pub found-other : joins row of_difference i ≡ false → false ≡ is_found ws wanted i
  unfolding is_found
  found-other t = rw (rw e at t) refl

pub two-below : {ws : List ℕ} {i : ℕ} (row : Row) → Rows ws i → joins row of_difference i ≡ true → Two ws row.a row.b
two-below {i = i} row r t = let j = joined row 10 i t in record { lent = r.lent; first = omega arith; second = omega arith }

-- ---- the equality

pub left-constant : (ws : List ℕ) (p q : ℕ) → constant_numbers (numbers_of ws p q) ≡ true
    → pushed ws of_constant (bit_of (slice_index (numbers_of ws p q) 0 == 0)) 0 ≡ equal_left ws p q
unfolding equal_left
left-constant ws p q t = rw t refl

pub equal-length : (ws : List ℕ) (p q : ℕ) → length (equal_left ws p q) ≡ length ws
unfolding equal_left
equal-length ws p q = go (constant_numbers (numbers_of ws p q))
  where
    go : (t : Bool) → length (pick t (pushed ws of_constant (bit_of (slice_index (numbers_of ws p q) 0 == 0)) 0) (difference_left ws (numbers_of ws p q) p q)) ≡ length ws
    go true = simp length-set
    go false = found-length ws (difference_row_of ws (numbers_of ws p q)) 10 p q

-- what `equal_words` asks, by rows that are in use
pub words-asked : {ws : List ℕ} {p q : ℕ} → Space ws 1 → p < count_in ws → q < count_in ws → Words ws p q
words-asked s h l = record { space = s; first = omega arith; second = omega arith }

-- by the numbers of the two rows
module _ (ws : List ℕ) (p q : ℕ) (ys : List ℕ) (e : ys ≡ numbers_of ws p q) where
  pub row-constant : constant_numbers ys ≡ true → count_in ws ≡ equal_row ws p q
  unfolding equal_row
  row-constant t = rw (rw e at t) refl

  pub left-zero : constant_numbers ys ≡ true → slice_index ys 0 ≡ 0 → pushed ws of_constant 1 0 ≡ equal_left ws p q
  unfolding equal_left
  left-zero t z = rw (rw e at t, eq-eqb (slice_index (numbers_of ws p q) 0) 0 (rw e at z)) refl

  pub left_other : constant_numbers ys ≡ true → (slice_index ys 0 ≢ 0) → pushed ws of_constant 0 0 ≡ equal_left ws p q
  unfolding equal_left
  left_other t n = rw (rw e at t, ne_eqb (slice_index (numbers_of ws p q) 0) 0 (λ z. n (rw e z))) refl

  pub left-bit : constant_numbers ys ≡ true → (n : ℕ) → n ≡ bit_of (slice_index ys 0 == 0) → pushed ws of_constant n 0 ≡ equal_left ws p q
  left-bit t n f = rw (f, e) (left-constant ws p q (rw e at t))

  pub row-atom : constant_numbers ys ≡ false → difference_row_of ws ys ≡ equal_row ws p q
  unfolding equal_row
  row-atom t = rw (rw e at t) (ap (difference_row_of ws) e)

  pub left-atom : constant_numbers ys ≡ false → difference_left ws ys p q ≡ equal_left ws p q
  unfolding equal_left
  left-atom t = rw (rw e at t) (ap (λ (l : List ℕ). difference_left ws l p q) e)
