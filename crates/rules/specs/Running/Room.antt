-- A run within the limits never needs more than the 192 cells that are lent at least: at most 64 are used before it, and it adds at most one for each of
-- at most 128 nodes. Assumes nothing.
use Rattle.std.specs.Prelude.{◌≡◌, true, List, ℕ, ◌*◌, length}
use Rattle.script.specs.Table.{Table}
use Rattle.script.specs.Tree.{tree_of}
use Rattle.rules.specs.Evaluation.{Outcome, eval}
use Rattle.rules.specs.Running.{values_of, all_valid}

-- the outcome that a run within the limits writes out
abbrev pub outcome : Table → List ℕ → List ℕ → ℕ → Outcome
outcome t values cells used = eval (tree_of t) (values_of t.entry_count values) (values_of used cells)

-- values and cells that are not refused with 34
pub record ValuesFit (entries : ℕ) (values cells : List ℕ) (used : ℕ) : Type 0 where
  pub counts : length values ≡ 5 * entries
  pub values_valid : all_valid used entries values ≡ true
  pub cells_valid : all_valid used used cells ≡ true
