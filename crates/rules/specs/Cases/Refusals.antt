-- Rows for 7, 9 and 12, for the tests of entry values and cells, and for error states: each cause, its place, and which comes first. The tests of tables
-- have theirs in `script`. Proved together by computation. Assumes nothing.
use Rattle.std.specs.Prelude.{◌≡◌, refl, List, [], ◌∷◌, ◌++◌, map, ℕ, replicate, None, Some}
use Rattle.script.specs.Answers.{Report, value_is, error_at, refused_with}
use Rattle.script.specs.Table.Cases.{lend, int', true', var', add', and', if', let', ref', get', set', sym'}
use Rattle.rules.specs.Cases.{Case, run?, runs, five, asking, right, accepts, refuses, ends, computed}

-- a run of `var 0` with one entry of type `i`
abbrev run_with : List ℕ → List ℕ → ℕ → Report → List ℕ → Case
run_with values cells used r cs = record { table = lend (0 ∷ []) (var' 0 ∷ []); question = run? values cells used; answer = runs r cs }

abbrev zeros : ℕ → List ℕ
zeros n = replicate n 0

unfoldable pub refusals : List Case
refusals =
    -- a `var` that a table may have and nothing binds; four nested `sym`
    refuses [] (var' 143 ∷ []) 7 (Some 0)
    ∷ accepts [] (int' 1 ∷ sym' 0 ∷ sym' 1 ∷ sym' 2 ∷ sym' 3 ∷ []) 0
    -- a table's own refusal is the answer, of the checker and of the runner, and comes before 35 and 34
    ∷ refuses [] (int' 1 ∷ add' 0 0 ∷ []) 5 (Some 0)
    ∷ record { table = lend [] (int' 1 ∷ add' 0 0 ∷ []); question = run? (five 3 0) (zeros 4) 65; answer = runs (refused_with 5 (Some 0)) (zeros 4) }
    -- 9 at a path's end: the script whose line docs/CHECKS.md prints
    ∷ refuses (2 ∷ []) (var' 0 ∷ true' ∷ set' 0 1 ∷ sym' 2 ∷ []) 9 (Some 3)
    -- 12: ten atoms and eleven
    ∷ accepts (replicate 10 1) (var' 0 ∷ var' 1 ∷ var' 2 ∷ var' 3 ∷ var' 4 ∷ var' 5 ∷ var' 6 ∷ var' 7 ∷ var' 8 ∷ var' 9 ∷ and' 8 9 ∷ and' 7 10 ∷ and' 6 11 ∷ and' 5 12 ∷ and' 4 13 ∷ and' 3 14 ∷ and' 2 15 ∷ and' 1 16 ∷ and' 0 17 ∷ int' 1 ∷ int' 2 ∷ if' 18 19 20 ∷ sym' 21 ∷ []) 0
    ∷ refuses (replicate 11 1) (var' 0 ∷ var' 1 ∷ var' 2 ∷ var' 3 ∷ var' 4 ∷ var' 5 ∷ var' 6 ∷ var' 7 ∷ var' 8 ∷ var' 9 ∷ var' 10 ∷ and' 9 10 ∷ and' 8 11 ∷ and' 7 12 ∷ and' 6 13 ∷ and' 5 14 ∷ and' 4 15 ∷ and' 3 16 ∷ and' 2 17 ∷ and' 1 18 ∷ and' 0 19 ∷ int' 1 ∷ int' 2 ∷ if' 20 21 22 ∷ sym' 23 ∷ []) 12 (Some 23)
    -- 35 before 34
    ∷ run_with [] (zeros 960) 65 (refused_with 35 None) (zeros 10)
    ∷ run_with (five 0 7) (zeros 959) 0 (refused_with 35 None) (zeros 10)
    -- 34: too few values, too many, part of a cell, a kind, a truth, a location among values and among cells
    ∷ run_with [] (zeros 960) 0 (refused_with 34 None) (zeros 10)
    ∷ run_with (five 0 7 ++ five 0 7) (zeros 960) 0 (refused_with 34 None) (zeros 10)
    ∷ run_with (five 0 7) (zeros 961) 0 (refused_with 34 None) (zeros 10)
    ∷ run_with (five 3 0) (zeros 960) 0 (refused_with 34 None) (zeros 10)
    ∷ run_with (five 1 2) (zeros 960) 0 (refused_with 34 None) (zeros 10)
    ∷ run_with (five 2 1) (zeros 960) 1 (refused_with 34 None) (zeros 10)
    ∷ run_with (five 0 7) (five 2 2 ++ zeros 955) 2 (refused_with 34 None) (five 2 2 ++ zeros 5)
    -- only used cells are looked at, and a value need not fit its entry's type
    ∷ run_with (five 2 0) (five 2 0 ++ five 9 9 ++ zeros 950) 1 (value_is 2 0 1) (five 2 0 ++ five 9 9)
    -- error states: a wrong kind, after both operands; an unknown variable; cells as they were then
    ∷ ends (int' 1 ∷ ref' 0 ∷ int' 2 ∷ ref' 2 ∷ add' 1 3 ∷ []) (error_at 4 2) (five 0 1 ++ five 0 2)
    ∷ ends (int' 1 ∷ var' 1 ∷ let' 0 1 ∷ []) (error_at 1 0) (zeros 10)
    ∷ ends (int' 1 ∷ get' 0 ∷ []) (error_at 1 0) (zeros 10)
    ∷ ends (int' 1 ∷ int' 2 ∷ int' 3 ∷ if' 0 1 2 ∷ []) (error_at 3 0) (zeros 10)
    ∷ []

pub refusals_hold : map asking refusals ≡ map right refusals
unfolding refusals computed
refusals_hold = refl
