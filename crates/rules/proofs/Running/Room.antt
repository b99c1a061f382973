-- A run within the limits never needs more than the 192 cells that are lent at least: at most 64 are used before it, and it adds at most one for each of
-- at most 128 nodes. Assumes nothing.
use Rattle.std.specs.Prelude.{◌≡◌, true, ◌&&◌, List, ℕ, ◌*◌, ◌≤◌, ◌/◌, ◌%◌, leb, eqb, length}
use Rattle.std.proofs.Math.Option.{none}
use Rattle.std.proofs.Common.{arith, leb-true, eqb-true}
use Rattle.script.specs.Table.{Table, table_test}
use Rattle.script.specs.Table.Laws.{passes}
use Rattle.script.specs.Tests.Laws.{both_true}
use Rattle.script.specs.Tree.{tree_of}
use Rattle.script.specs.Tree.Size.{size-tree}
use Rattle.rules.specs.Evaluation.Laws.{cells_of}
use Rattle.rules.proofs.Evaluation.Laws.{eval-grows}
use Rattle.rules.specs.Running.{values_of, all_valid, used_limit, lent_limit, right_cells, right_values, within_limits}
use Rattle.rules.proofs.Running.Laws.{length-values}
use Rattle.rules.specs.Running.Room.{ValuesFit, outcome}

-- cells that are not refused with 35
pub cells_fit : (cells : List ℕ) (used : ℕ) → right_cells cells used ≡ true → (used ≤ used_limit) × (5 * lent_limit ≤ length cells)
cells_fit cells used h =
    let r = both_true (leb used used_limit) (leb lent_limit (length cells / 5)) h in
    let l = leb-true lent_limit (length cells / 5) r.1 in
    (leb-true used used_limit r.0, omega (arith, l))

pub values_fit : (entries : ℕ) (values cells : List ℕ) (used : ℕ) → right_values entries values cells used ≡ true → ValuesFit entries values cells used
values_fit entries values cells used h =
    let lengths = eqb (length values) (5 * entries) && eqb (length cells % 5) 0 in
    let a = both_true (lengths && all_valid used entries values) (all_valid used used cells) h in
    let b = both_true lengths (all_valid used entries values) a.0 in
    let c = both_true (eqb (length values) (5 * entries)) (eqb (length cells % 5) 0) b.0 in
    record { counts = eqb-true (length values) (5 * entries) c.0; values_valid = b.1; cells_valid = a.1 }

pub used-few : (t : Table) (values cells : List ℕ) (used : ℕ) → within_limits t values cells used ≡ true → used ≤ used_limit
used-few t values cells used h = (cells_fit cells used (both_true (right_cells cells used) (right_values t.entry_count values cells used) h).0).0

pub cells_suffice : (t : Table) (values cells : List ℕ) (used : ℕ) → table_test t ≡ none → within_limits t values cells used ≡ true
    → length (cells_of (outcome t values cells used)) ≤ lent_limit
cells_suffice t values cells used e h =
    let g = eval-grows (tree_of t) (values_of t.entry_count values) (values_of used cells) in
    let p = passes t e in
    omega (arith, g.bounded, length-values used cells, size-tree t e, used-few t values cells used h, p)
