-- Rows that tell what `get` finds from what it doesn't while a cell holds a value of a wrong type (docs/CHECKS.md, 'Nodes on a path'): what is found has its
-- own type and needs no consistent log, all else does. Proved together by computation. Assumes nothing.
use Rattle.std.specs.Prelude.{◌≡◌, refl, List, [], ◌∷◌, ◌++◌, map, replicate, Some}
use Rattle.script.specs.Answers.{value_is}
use Rattle.script.specs.Table.Cases.{lend, int', true', var', add', if', let', ref', get', set', typed', sym'}
use Rattle.script.specs.declared.Node.{Node}
use Rattle.rules.specs.Cases.{Case, run?, runs, five, asking, right, accepts, refuses, computed}

-- a word through one entry, a flag through the other, a look through the first, and the word back; the value is what the look gave
abbrev maybe_shared : List Node
maybe_shared =
    var' 0 ∷ int' 7 ∷ set' 0 1 ∷ var' 1 ∷ true' ∷ set' 3 4 ∷ var' 0 ∷ get' 6 ∷ var' 1 ∷ int' 8 ∷ set' 8 9 ∷ var' 4 ∷ let' 10 11 ∷ let' 7 12 ∷ let' 5 13 ∷ let' 2 14 ∷ sym' 15 ∷ []

unfoldable pub scratch_cells : List Case
scratch_cells =
    -- a flag in a cell of words, a look at it, and a word back; the look gave a truth
    accepts (2 ∷ []) (var' 0 ∷ true' ∷ set' 0 1 ∷ var' 0 ∷ get' 3 ∷ var' 0 ∷ int' 7 ∷ set' 5 6 ∷ var' 2 ∷ let' 7 8 ∷ let' 4 9 ∷ let' 2 10 ∷ sym' 11 ∷ []) 1
    -- no word back
    ∷ refuses (2 ∷ []) (var' 0 ∷ true' ∷ set' 0 1 ∷ var' 0 ∷ get' 3 ∷ let' 2 4 ∷ sym' 5 ∷ []) 9 (Some 6)
    -- what the look gave is no word to put back
    ∷ refuses (2 ∷ []) (var' 0 ∷ true' ∷ set' 0 1 ∷ var' 0 ∷ var' 0 ∷ get' 4 ∷ set' 3 5 ∷ let' 2 6 ∷ sym' 7 ∷ []) 9 (Some 8)
    -- a look through another symbol while the flag is in
    ∷ refuses (2 ∷ 2 ∷ []) (var' 0 ∷ true' ∷ set' 0 1 ∷ var' 1 ∷ get' 3 ∷ var' 0 ∷ int' 7 ∷ set' 5 6 ∷ let' 4 7 ∷ let' 2 8 ∷ sym' 9 ∷ []) 9 (Some 4)
    -- a typed block while the flag is in, after a look
    ∷ refuses (2 ∷ [])
    (var' 0 ∷ true' ∷ set' 0 1 ∷ var' 0 ∷ get' 3 ∷ int' 1 ∷ typed' 5 ∷ var' 0 ∷ int' 7 ∷ set' 7 8 ∷ let' 6 9 ∷ let' 4 10 ∷ let' 2 11 ∷ sym' 12 ∷ [])
    9 (Some 6)
    -- `get` of a word while the flag is in: 6 comes first
    ∷ refuses (2 ∷ []) (var' 0 ∷ true' ∷ set' 0 1 ∷ int' 5 ∷ get' 3 ∷ let' 2 4 ∷ sym' 5 ∷ []) 6 (Some 4)
    -- the flag is found past the write of a certainly different cell
    ∷ accepts (2 ∷ [])
    (var' 0 ∷ true' ∷ set' 0 1 ∷ int' 1 ∷ ref' 3 ∷ var' 0 ∷ get' 5 ∷ var' 0 ∷ int' 7 ∷ set' 7 8 ∷ var' 3 ∷ let' 9 10 ∷ let' 6 11 ∷ let' 4 12 ∷ let' 2 13 ∷ sym' 14 ∷ [])
    1
    -- the flag decides an `if`: its second branch, which is wrong, is not followed
    ∷ accepts (2 ∷ []) (var' 0 ∷ true' ∷ set' 0 1 ∷ var' 0 ∷ get' 3 ∷ var' 0 ∷ int' 7 ∷ set' 5 6 ∷ true' ∷ int' 1 ∷ add' 8 9 ∷ if' 4 7 10 ∷ let' 2 11 ∷ sym' 12 ∷ []) 0
    -- the flag is no word
    ∷ refuses (2 ∷ []) (var' 0 ∷ true' ∷ set' 0 1 ∷ var' 0 ∷ get' 3 ∷ int' 1 ∷ add' 4 5 ∷ var' 0 ∷ int' 7 ∷ set' 7 8 ∷ let' 6 9 ∷ let' 2 10 ∷ sym' 11 ∷ []) 6 (Some 6)
    -- a reference in a cell of words: its cell is read
    ∷ accepts (2 ∷ [])
    (true' ∷ ref' 0 ∷ var' 0 ∷ var' 1 ∷ set' 2 3 ∷ var' 0 ∷ get' 5 ∷ get' 6 ∷ var' 0 ∷ int' 7 ∷ set' 8 9 ∷ var' 3 ∷ let' 10 11 ∷ let' 7 12 ∷ let' 4 13 ∷ let' 1 14 ∷ sym' 15 ∷ [])
    1
    -- a right write is found while another cell's is wrong
    ∷ accepts (2 ∷ 2 ∷ [])
    (var' 0 ∷ true' ∷ set' 0 1 ∷ var' 1 ∷ int' 7 ∷ set' 3 4 ∷ var' 1 ∷ get' 6 ∷ var' 0 ∷ int' 8 ∷ set' 8 9 ∷ var' 4 ∷ let' 10 11 ∷ let' 7 12 ∷ let' 5 13 ∷ let' 2 14 ∷ sym' 15 ∷ [])
    0
    -- a right write further back is not found past a possible alias: where both entries are one cell, the look gives the flag
    ∷ refuses (2 ∷ 2 ∷ []) maybe_shared 9 (Some 7)
    ∷ record { table = lend (2 ∷ 2 ∷ []) maybe_shared; question = run? (five 2 0 ++ five 2 0) (five 0 5 ++ replicate 955 0) 1; answer = runs (value_is 1 1 1) (five 0 8 ++ five 0 0) }
    ∷ []

pub scratch_cells_hold : map asking scratch_cells ≡ map right scratch_cells
unfolding scratch_cells computed
scratch_cells_hold = refl
