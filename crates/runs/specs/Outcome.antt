-- What a trial leaves in the lent cells. Assumes nothing.
use Rattle.std.specs.Prelude.{List, ℕ, ◌*◌, min, replicate, Err, Ok}
use Rattle.script.specs.Flat.{node_width}
use Rattle.script.specs.Limits.{node_limit}
use Rattle.rules.specs.Running.{run_table}
use Rattle.text.specs.Reading.{reading}
use Rattle.copies.specs.Copies.{copied}
use Rattle.call_texts.specs.Tables.{place_count, table_as}
use Rattle.script.specs.Answers.Named.{Reading}

-- what a run of the table that was read leaves; as they were, if none was
abbrev pub cells_by : Reading → List ℕ → List ℕ → List ℕ → List ℕ → ℕ → List ℕ
cells_by (Ok s) xs es values cells used = (run_table (table_as xs s.nodes es s.entries) values cells used).cells
cells_by (Err r) xs es values cells used = cells

-- the text is read into 130 places and 16 entries; the flat table keeps the first 128 places
abbrev pub cells_after : List ℕ → List ℕ → List ℕ → ℕ → List ℕ
cells_after text values cells used =
    cells_by (reading text place_count 16).answer (copied (reading text place_count 16).lent_nodes (min place_count node_limit) (replicate (node_width * node_limit) 0))
    (reading text place_count 16).lent_entries values cells used
