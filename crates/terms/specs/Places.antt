-- Where the numbers of the terms stand in the workspace of a `sym`, one behind the other: the environment, two numbers a variable; the count of the rows;
-- the rows, three numbers each. What a path keeps besides begins where the rows end. The code's names are the constants of `terms`. Assumes nothing.
use Rattle.std.specs.Prelude.{ℕ, ◌+◌, ◌*◌}
use Rattle.script.specs.Limits.{node_limit, entry_limit}

-- at most how many variables are in scope, and how many symbols a path has
abbrev pub symbol_limit : ℕ
symbol_limit = entry_limit + node_limit

-- at most how many rows a node makes
abbrev pub rows_anode : ℕ
rows_anode = 1

-- at most how many rows a path has: one for `true`, one for each variable at its start, and those of its nodes
abbrev pub row_limit : ℕ
row_limit = 1 + entry_limit + rows_anode * node_limit

abbrev pub variables_end : ℕ
variables_end = 2 * symbol_limit

abbrev pub count_at : ℕ
count_at = variables_end

abbrev pub rows_at : ℕ
rows_at = count_at + 1

abbrev pub row_at : ℕ → ℕ
row_at i = rows_at + 3 * i

abbrev pub rows_end : ℕ
rows_end = row_at row_limit
