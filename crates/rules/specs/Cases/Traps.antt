-- Rows that tell the rules from the four traps (docs/CHECKS.md, 'What is easily got wrong') and from the wrong programs of the reviewer's checklist, proved together by computation.
-- Assumes nothing.
use Rattle.std.specs.Prelude.{true, ◌≡◌, refl, List, [], ◌∷◌, map, ◌-◌, ◌^◌, replicate, Some}
use Rattle.script.specs.Answers.{value_is}
use Rattle.script.specs.Table.Cases.{int', true', false', var', eq', and', if', let', ref', get', set', typed', sym'}
use Rattle.rules.specs.Symbolic.{opposite_each, same_each, same_sum, difference, same_atom}
use Rattle.rules.specs.Cases.{Case, asking, right, accepts, refuses, ends, computed}

unfoldable pub traps : List Case
traps =
    -- clearing all wrong writes when any right one comes: a right write through another symbol mends nothing, here at a `get` (at a path's end: P6)
    refuses (2 ∷ 2 ∷ [])
    (var' 0 ∷ true' ∷ set' 0 1 ∷ var' 1 ∷ int' 7 ∷ set' 3 4 ∷ var' 0 ∷ get' 6 ∷ let' 5 7 ∷ let' 2 8 ∷ sym' 9 ∷ [])
    9 (Some 7)
    -- keeping the log across a typed block: the block stores 8 where 7 was, so the `get` after it may give either
    ∷ refuses (2 ∷ [])
    (var' 0 ∷ int' 7 ∷ set' 0 1 ∷ var' 0 ∷ int' 8 ∷ set' 3 4 ∷ typed' 5 ∷ var' 0 ∷ get' 7 ∷ int' 7 ∷ eq' 8 9 ∷ int' 1 ∷ true' ∷ if' 10 11 12 ∷ let' 6 13 ∷ let' 2 14 ∷ sym' 15 ∷ [])
    10 (Some 16)
    -- treating two entry symbols as different cells: 8 may have been stored where 7 was
    ∷ refuses (2 ∷ 2 ∷ [])
    (var' 0 ∷ int' 7 ∷ set' 0 1 ∷ var' 1 ∷ int' 8 ∷ set' 3 4 ∷ var' 0 ∷ get' 6 ∷ int' 7 ∷ eq' 7 8 ∷ int' 1 ∷ true' ∷ if' 9 10 11 ∷ let' 5 12 ∷ let' 2 13 ∷ sym' 14 ∷ [])
    10 (Some 15)
    -- carrying a branch's condition into the other branch: there the same condition is false
    ∷ refuses (1 ∷ []) (var' 0 ∷ int' 1 ∷ var' 0 ∷ int' 2 ∷ true' ∷ if' 2 3 4 ∷ if' 0 1 5 ∷ sym' 6 ∷ []) 10 (Some 7)
    -- saying 11 before 64 paths have ended, and not saying it then
    ∷ accepts (replicate 6 1) (var' 0 ∷ int' 1 ∷ int' 2 ∷ if' 0 1 2 ∷ var' 1 ∷ int' 1 ∷ int' 2 ∷ if' 4 5 6 ∷ var' 2 ∷ int' 1 ∷ int' 2 ∷ if' 8 9 10 ∷ var' 3 ∷ int' 1 ∷ int' 2 ∷ if' 12 13 14
    ∷ var' 4 ∷ int' 1 ∷ int' 2 ∷ if' 16 17 18 ∷ var' 5 ∷ int' 1 ∷ int' 2 ∷ if' 20 21 22 ∷ let' 19 23 ∷ let' 15 24 ∷ let' 11 25 ∷ let' 7 26 ∷ let' 3 27 ∷ sym' 28 ∷ []) 0
    ∷ refuses (replicate 7 1) (var' 0 ∷ int' 1 ∷ int' 2 ∷ if' 0 1 2 ∷ var' 1 ∷ int' 1 ∷ int' 2 ∷ if' 4 5 6 ∷ var' 2 ∷ int' 1 ∷ int' 2 ∷ if' 8 9 10 ∷ var' 3 ∷ int' 1 ∷ int' 2 ∷ if' 12 13 14
    ∷ var' 4 ∷ int' 1 ∷ int' 2 ∷ if' 16 17 18 ∷ var' 5 ∷ int' 1 ∷ int' 2 ∷ if' 20 21 22 ∷ var' 6 ∷ int' 1 ∷ int' 2 ∷ if' 24 25 26 ∷ let' 23 27 ∷ let' 19 28 ∷ let' 15 29 ∷ let' 11 30 ∷ let' 7 31 ∷ let' 3 32 ∷ sym' 33 ∷ []) 11 (Some 34)
    -- taking a difference and its negation for two atoms: where x = y fails, y = x fails too
    ∷ accepts (0 ∷ 0 ∷ []) (var' 0 ∷ var' 1 ∷ eq' 0 1 ∷ int' 1 ∷ var' 1 ∷ var' 0 ∷ eq' 4 5 ∷ true' ∷ int' 2 ∷ if' 6 7 8 ∷ if' 2 3 9 ∷ sym' 10 ∷ []) 0
    -- reporting `i` always
    ∷ accepts [] (true' ∷ ref' 0 ∷ sym' 1 ∷ []) 3
    -- storing a value of any type in typed mode
    ∷ refuses (2 ∷ []) (var' 0 ∷ true' ∷ set' 0 1 ∷ []) 6 (Some 2)
    -- a run that stores nothing, and one with an invented used count
    ∷ ends (int' 1 ∷ ref' 0 ∷ var' 0 ∷ int' 2 ∷ set' 2 3 ∷ var' 0 ∷ get' 5 ∷ let' 4 6 ∷ let' 1 7 ∷ [])
    (value_is 0 2 1) (0 ∷ 2 ∷ 0 ∷ 0 ∷ 0 ∷ 0 ∷ 0 ∷ 0 ∷ 0 ∷ 0 ∷ [])
    -- an `and` that skips its second operand, which stores 2
    ∷ ends (int' 1 ∷ ref' 0 ∷ false' ∷ var' 0 ∷ int' 2 ∷ set' 3 4 ∷ int' 2 ∷ eq' 5 6 ∷ and' 2 7 ∷ let' 1 8 ∷ [])
    (value_is 1 0 1) (0 ∷ 2 ∷ 0 ∷ 0 ∷ 0 ∷ 0 ∷ 0 ∷ 0 ∷ 0 ∷ 0 ∷ [])
    ∷ []

pub traps_hold : map asking traps ≡ map right traps
unfolding traps computed
traps_hold = refl

-- 2^31 x is its own negation, so 2^31 x = 5 and 2^31 x = -5 are one atom; a script of 128 nodes has no room to show it
pub one_half-atom : same_atom (difference (record { constant = 2 ^ 32 - 5; coefficients = 2 ^ 31 ∷ [] })) (difference (record { constant = 5; coefficients = 2 ^ 31 ∷ [] })) ≡ true
unfolding same_atom same_sum same_each opposite_each
one_half-atom = refl
