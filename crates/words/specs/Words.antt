-- Equality of words, as the code does it: a constant, or an atom found again or made. Assumes nothing.
pub mod Laws
pub mod Made
use Rattle.std.specs.Prelude.{ℕ, ◌<◌, ◌≤◌, Bool, ◌&&◌, List, length, ◌==◌, slice_index}
use Rattle.script.specs.Tests.{pick}
use Rattle.terms.specs.Atoms.{found_or}
use Rattle.terms.specs.Places.{row_limit, rows_end}
use Rattle.terms.specs.Search.{first_or}
use Rattle.terms.specs.Terms.{row_in, count_in, Space, pushed, bit_of, of_constant, of_difference}
use Rattle.words.specs.Sums.{joins, numbers_of, constant_numbers, alike, place_count}

-- the difference of the rows is the wanted one or its negation
abbrev pub is_wanted : List ℕ → List ℕ → ℕ → ℕ → Bool
is_wanted ws wanted p q = alike (numbers_of ws p q) wanted

-- row i is the atom of the wanted difference
unfoldable pub is_found : List ℕ → List ℕ → ℕ → Bool
is_found ws wanted i = joins (row_in ws i) of_difference i && is_wanted ws wanted (row_in ws i).a (row_in ws i).b

-- its row, or the count if it has none
abbrev pub difference_row_of : List ℕ → List ℕ → ℕ
difference_row_of ws wanted = first_or (is_found ws wanted) (count_in ws)

abbrev pub difference_left : List ℕ → List ℕ → ℕ → ℕ → List ℕ
difference_left ws wanted p q = found_or ws (difference_row_of ws wanted) 10 p q

-- the row of the equality of words p and q, and the rows then
unfoldable pub equal_row : List ℕ → ℕ → ℕ → ℕ
equal_row ws p q = pick (constant_numbers (numbers_of ws p q)) (count_in ws) (difference_row_of ws (numbers_of ws p q))

unfoldable pub equal_left : List ℕ → ℕ → ℕ → List ℕ
equal_left ws p q =
    pick (constant_numbers (numbers_of ws p q)) (pushed ws of_constant (bit_of (slice_index (numbers_of ws p q) 0 == 0)) 0)
    (difference_left ws (numbers_of ws p q) p q)

-- ---- what the code asks

-- row i is lent
pub record Rows (ws : List ℕ) (i : ℕ) : Type 0 where
  pub lent : rows_end ≤ length ws
  pub within : i < row_limit

-- room for one row more, and two rows are among those lent
pub record Words (ws : List ℕ) (p q : ℕ) : Type 0 where
  pub space : Space ws 1
  pub first : p < row_limit
  pub second : q < row_limit
