-- Atoms of symbols, found again or made, as the code does it. Assumes nothing.
pub mod Laws
pub mod Made
use Rattle.std.specs.Prelude.{Bool, ◌&&◌, ◌||◌, List, ℕ, eqb, ltb}
use Rattle.script.specs.Tests.{pick}
use Rattle.terms.specs.References.{symbol_at, apart_at}
use Rattle.terms.specs.Search.{first_or}
use Rattle.terms.specs.Terms.{count_in, row_in, pushed, of_constant, of_pair}
use Rattle.terms.specs.declared.Row.{Row}

-- the rows after row r was found among them, or else the one row more
unfoldable pub found_or : List ℕ → ℕ → ℕ → ℕ → ℕ → List ℕ
found_or ws r op a b = pick (ltb r (count_in ws)) ws (pushed ws op a b)

-- the row has these operands, in this order
unfoldable pub holds : Row → ℕ → ℕ → Bool
holds row a b = eqb row.a a && eqb row.b b

-- the row has this operator and these operands, in either order
unfoldable pub is_atom : ℕ → ℕ → ℕ → Row → Bool
is_atom op a b row = eqb row.op op && (holds row a b || holds row b a)

abbrev pub atom_at : List ℕ → ℕ → ℕ → ℕ → ℕ → Bool
atom_at ws op a b i = is_atom op a b (row_in ws i)

-- the row of an atom of symbols, or the count if it has none
abbrev pub atom_row_of : List ℕ → ℕ → ℕ → ℕ → ℕ
atom_row_of ws op a b = first_or (atom_at ws op a b) (count_in ws)

abbrev pub atom_left : List ℕ → ℕ → ℕ → ℕ → List ℕ
atom_left ws op a b = found_or ws (atom_row_of ws op a b) op a b

-- ---- equality of references, by their places

unfoldable pub references_row : List ℕ → ℕ → ℕ → ℕ
references_row ws r s = pick (eqb (symbol_at r) (symbol_at s)) (count_in ws) (pick (apart_at r s) (count_in ws) (atom_row_of ws of_pair (symbol_at r) (symbol_at s)))

unfoldable pub references_left : List ℕ → ℕ → ℕ → List ℕ
references_left ws r s =
    pick (eqb (symbol_at r) (symbol_at s)) (pushed ws of_constant 1 0) (pick (apart_at r s) (pushed ws of_constant 0 0) (atom_left ws of_pair (symbol_at r) (symbol_at s)))
