-- The difference of two words in numbers, as the code computes it: its constant, and then the coefficients of its symbols. Assumes nothing.
pub mod Laws
pub mod Values
pub mod Stands
use Rattle.std.specs.Prelude.{ℕ, zero, suc, ◌+◌, ◌*◌, ◌%◌, ◌^◌, ◌<◌, ◌≤◌, Bool, not, ◌&&◌, ◌||◌, List, length, replicate, ◌==◌, nat_lt, slice_index, slice_set}
use Rattle.script.specs.Tests.{pick}
use Rattle.terms.specs.Places.{row_limit, rows_end, symbol_limit}
use Rattle.terms.specs.Search.{nowhere}
use Rattle.terms.specs.Terms.{row_in, of_number, of_sum, of_symbol}
use Rattle.terms.specs.declared.Row.{Row}

-- the constant and the coefficients
abbrev pub place_count : ℕ
place_count = 1 + symbol_limit

-- v more at a place
abbrev pub added : List ℕ → ℕ → ℕ → List ℕ
added xs at v = slice_set xs at ((slice_index xs at + v) % 2 ^ 32)

-- row i has this operator and two earlier rows as its operands
unfoldable pub joins : Row → ℕ → ℕ → Bool
joins row op i = row.op == op && (nat_lt row.a i && nat_lt row.b i)

-- the row is a symbol of a word
unfoldable pub is_symbol : Row → Bool
is_symbol row = row.op == of_symbol && nat_lt row.a symbol_limit

-- the weight w of row i goes to its operands, if it is a sum
unfoldable pub spread : List ℕ → Row → ℕ → ℕ → List ℕ
spread weights row i w = pick (joins row of_sum i) (added (added weights row.a w) row.b w) weights

-- the weight w of a row goes to its place, if it is a number or a symbol
unfoldable pub gather : List ℕ → Row → ℕ → List ℕ
gather numbers row w =
    pick (row.op == of_number) (added numbers 0 (w * row.a % 2 ^ 32)) (pick (is_symbol row) (added numbers (row.a + 1) w) numbers)

-- the numbers after the rows below i, from the last down
unfoldable pub passed : List ℕ → ℕ → List ℕ → List ℕ → List ℕ
passed ws zero weights numbers = numbers
passed ws (suc i) weights numbers =
    passed ws i (spread weights (row_in ws i) i (slice_index weights i)) (gather numbers (row_in ws i) (slice_index weights i))

-- the number of rows up to the upper one of two
unfoldable pub rows_to : ℕ → ℕ → ℕ
rows_to p q = pick (nat_lt p q) (q + 1) (p + 1)

abbrev pub start_weights : ℕ → ℕ → List ℕ
start_weights p q = added (added (replicate row_limit 0) p 1) q 4294967295

-- the numbers of row p less row q, added to those given
abbrev pub subtracted : List ℕ → ℕ → ℕ → List ℕ → List ℕ
subtracted ws p q numbers = passed ws (rows_to p q) (start_weights p q) numbers

abbrev pub no_numbers : List ℕ
no_numbers = replicate place_count 0

-- the numbers of row p less row q
abbrev pub numbers_of : List ℕ → ℕ → ℕ → List ℕ
numbers_of ws p q = subtracted ws p q no_numbers

-- ---- tests of such numbers

-- every symbol's coefficient is 0
abbrev pub has_symbol : List ℕ → ℕ → Bool
has_symbol xs k = not (slice_index xs (k + 1) == 0)

abbrev pub constant_numbers : List ℕ → Bool
constant_numbers xs = nowhere (has_symbol xs) symbol_limit

abbrev pub differs_at : List ℕ → List ℕ → ℕ → Bool
differs_at xs ys k = not (slice_index xs k == slice_index ys k)

abbrev pub same_numbers : List ℕ → List ℕ → Bool
same_numbers xs ys = nowhere (differs_at xs ys) place_count

abbrev pub remains_at : List ℕ → List ℕ → ℕ → Bool
remains_at xs ys k = not ((slice_index xs k + slice_index ys k) % 2 ^ 32 == 0)

abbrev pub opposite_numbers : List ℕ → List ℕ → Bool
opposite_numbers xs ys = nowhere (remains_at xs ys) place_count

-- one atom
unfoldable pub alike : List ℕ → List ℕ → Bool
alike xs ys = same_numbers xs ys || opposite_numbers xs ys

-- ---- what the code asks

-- the rows are lent, and two are among them
pub record Two (ws : List ℕ) (p q : ℕ) : Type 0 where
  pub lent : rows_end ≤ length ws
  pub first : p < row_limit
  pub second : q < row_limit

-- room for a pass over the rows below i
pub record Room (ws : List ℕ) (i : ℕ) (weights : List ℕ) : Type 0 where
  pub lent : rows_end ≤ length ws
  pub within : i ≤ row_limit
  pub weighted : row_limit ≤ length weights
