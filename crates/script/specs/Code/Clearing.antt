-- What the clearing of unused places leaves of a table in flat form. Assumes nothing.
use Rattle.std.specs.Prelude.{List, ◌++◌, ◌≡◌, ℕ, ◌*◌, ◌-◌, length, take, drop, replicate}
use Rattle.script.specs.Flat.{node_width, nodes_in}
use Rattle.script.specs.Table.{unused}
pub mod Laws

-- the nodes before `from` are as they were, `false` stands in every place from there on, and the numbers after the last whole node are as they were
pub record Cleared (from : ℕ) (xs xs' : List ℕ) : Type 0 where
  pub table-length : length xs' ≡ length xs
  pub nodes_are : nodes_in xs' ≡ take from (nodes_in xs) ++ replicate (length (nodes_in xs) - from) unused
  pub rest : drop (node_width * length (nodes_in xs)) xs' ≡ drop (node_width * length (nodes_in xs)) xs
