-- Rows that tell a cell that `ref` makes on a path from the cells of the variables (docs/CHECKS.md, 'The log'), and both from symbols of which nothing is known.
-- What is known of a cell is seen by an `if` on what `get` gives: only where the stored value is known, one branch alone is followed. Proved together by
-- computation. Assumes nothing.
use Rattle.std.specs.Prelude.{◌≡◌, refl, List, [], ◌∷◌, ◌++◌, map, replicate, Some}
use Rattle.script.specs.Answers.{value_is}
use Rattle.script.specs.Table.Cases.{lend, int', true', var', add', eq', and', if', let', ref', get', set', typed', sym'}
use Rattle.script.specs.declared.Node.{Node}
use Rattle.rules.specs.Cases.{Case, run?, runs, five, asking, right, accepts, refuses, computed}

abbrev stored_away : List Node
stored_away =
    int' 7 ∷ ref' 0 ∷ var' 0 ∷ var' 1 ∷ set' 2 3 ∷ int' 0 ∷ typed' 5 ∷ var' 1 ∷ int' 7 ∷ set' 7 8 ∷ var' 0 ∷ get' 10 ∷ int' 8 ∷ set' 11 12 ∷ var' 1 ∷ get' 14 ∷ int' 7 ∷ eq' 15 16 ∷ int' 1 ∷ true' ∷ if' 17 18 19
    ∷ let' 13 20 ∷ let' 9 21 ∷ let' 6 22 ∷ let' 4 23 ∷ let' 1 24 ∷ sym' 25 ∷ []

unfoldable pub new_cells : List Case
new_cells =
    -- a new cell, a write through it, one through an entry, and the new cell read: it keeps 8
    accepts (2 ∷ [])
    (int' 7 ∷ ref' 0 ∷ var' 1 ∷ int' 8 ∷ set' 2 3 ∷ var' 0 ∷ int' 9 ∷ set' 5 6 ∷ var' 1 ∷ get' 8 ∷ int' 8 ∷ eq' 9 10 ∷ int' 1 ∷ true' ∷ if' 11 12 13 ∷ let' 7 14 ∷ let' 4 15 ∷ let' 1 16 ∷ sym' 17 ∷ [])
    0
    -- the other way round: the entry's cell keeps 7 past the write of `ref`
    ∷ accepts (2 ∷ [])
    (var' 0 ∷ int' 7 ∷ set' 0 1 ∷ int' 8 ∷ ref' 3 ∷ var' 0 ∷ get' 5 ∷ int' 7 ∷ eq' 6 7 ∷ int' 1 ∷ true' ∷ if' 8 9 10 ∷ let' 4 11 ∷ let' 2 12 ∷ sym' 13 ∷ [])
    0
    -- a variable that a `let` outside the block binds is as good as an entry, and so is its symbol under another name
    ∷ accepts []
    (int' 5 ∷ ref' 0 ∷ var' 0 ∷ int' 7 ∷ ref' 3 ∷ var' 1 ∷ int' 8 ∷ set' 5 6 ∷ var' 2 ∷ get' 8 ∷ int' 7 ∷ eq' 9 10 ∷ int' 1 ∷ true' ∷ if' 11 12 13 ∷ let' 7 14 ∷ let' 4 15 ∷ let' 2 16 ∷ sym' 17 ∷ let' 1 18 ∷ [])
    0
    -- `eq` of the two is false and no atom: with ten others the `if` is decided, and its first branch, which is wrong, is not followed
    ∷ accepts (2 ∷ replicate 10 1)
    (int' 7 ∷ ref' 0 ∷ var' 0 ∷ var' 11 ∷ eq' 2 3 ∷ var' 1 ∷ var' 2 ∷ var' 3 ∷ var' 4 ∷ var' 5 ∷ var' 6 ∷ var' 7 ∷ var' 8 ∷ var' 9 ∷ var' 10 ∷ and' 13 14 ∷ and' 12 15 ∷ and' 11 16 ∷ and' 10 17 ∷ and' 9 18 ∷ and' 8 19 ∷ and' 7 20
    ∷ and' 6 21 ∷ and' 5 22 ∷ and' 4 23 ∷ true' ∷ int' 1 ∷ add' 25 26 ∷ int' 2 ∷ if' 24 27 28 ∷ let' 1 29 ∷ sym' 30 ∷ [])
    0
    -- after a typed block the symbols are what they were; a `sym` there begins no path
    ∷ accepts (2 ∷ [])
    (int' 6 ∷ ref' 0 ∷ int' 0 ∷ typed' 2 ∷ var' 1 ∷ int' 7 ∷ set' 4 5 ∷ var' 0 ∷ int' 8 ∷ set' 7 8 ∷ var' 1 ∷ get' 10 ∷ int' 7 ∷ eq' 11 12 ∷ int' 1 ∷ true' ∷ if' 13 14 15 ∷ let' 9 16 ∷ let' 6 17 ∷ sym' 18 ∷ let' 3 19 ∷ let' 1 20 ∷ sym' 21 ∷ [])
    0
    -- in a typed block an inner `sym` begins paths of its own: the cell made outside is a variable's there, which may be the entry's
    ∷ refuses (2 ∷ [])
    (int' 6 ∷ ref' 0 ∷ var' 1 ∷ int' 7 ∷ set' 2 3 ∷ var' 0 ∷ int' 8 ∷ set' 5 6 ∷ var' 1 ∷ get' 8 ∷ int' 7 ∷ eq' 9 10 ∷ int' 1 ∷ true' ∷ if' 11 12 13 ∷ let' 7 14 ∷ let' 4 15 ∷ sym' 16 ∷ typed' 17 ∷ let' 1 18 ∷ sym' 19 ∷ [])
    10 (Some 17)
    -- and is none that this inner block makes
    ∷ accepts []
    (int' 6 ∷ ref' 0 ∷ int' 7 ∷ ref' 2 ∷ var' 0 ∷ int' 8 ∷ set' 4 5 ∷ var' 1 ∷ get' 7 ∷ int' 7 ∷ eq' 8 9 ∷ int' 1 ∷ true' ∷ if' 10 11 12 ∷ let' 6 13 ∷ let' 3 14 ∷ sym' 15 ∷ typed' 16 ∷ let' 1 17 ∷ sym' 18 ∷ [])
    0
    -- what `get` makes may be any cell, a new one too: here the new one's location was stored where it reads, and the run stores 8 there
    ∷ refuses (4 ∷ []) stored_away 10 (Some 26)
    ∷ record { table = lend (4 ∷ []) stored_away; question = run? (five 2 0) (five 2 1 ++ five 0 5 ++ replicate 950 0) 2; answer = runs (value_is 1 1 3) (five 2 2 ++ five 0 5) }
    -- so may a typed block's value, here in a variable that a `let` of the path binds, also for a `sym` behind it
    ∷ refuses (2 ∷ [])
    (var' 0 ∷ typed' 0 ∷ int' 7 ∷ ref' 2 ∷ var' 1 ∷ int' 8 ∷ set' 4 5 ∷ var' 2 ∷ get' 7 ∷ int' 7 ∷ eq' 8 9 ∷ int' 1 ∷ true' ∷ if' 10 11 12 ∷ let' 6 13 ∷ let' 3 14 ∷ sym' 15 ∷ let' 1 16 ∷ sym' 17 ∷ [])
    10 (Some 18)
    -- two entries may be one cell, also where a `ref` went before (and in `Traps`)
    ∷ refuses (2 ∷ 2 ∷ [])
    (int' 6 ∷ ref' 0 ∷ var' 0 ∷ int' 7 ∷ set' 2 3 ∷ var' 1 ∷ int' 8 ∷ set' 5 6 ∷ var' 0 ∷ get' 8 ∷ int' 7 ∷ eq' 9 10 ∷ int' 1 ∷ true' ∷ if' 11 12 13 ∷ let' 7 14 ∷ let' 4 15 ∷ let' 1 16 ∷ sym' 17 ∷ [])
    10 (Some 18)
    ∷ []

pub new_cells_hold : map asking new_cells ≡ map right new_cells
unfolding new_cells computed
new_cells_hold = refl
