-- From bytes: entry values and cells that pass 34 have locations below the used count only, and a run within the limits ends with locations below its
-- own used count only. Assumes nothing.
use Rattle.std.specs.Prelude.{true, List, ◌≡◌, ℕ, zero, suc, get_or, drop}
use Rattle.std.proofs.lemmas.Bool.{false≢true}
use Rattle.std.proofs.Common.{sym, subst, ltb-true}
use Rattle.script.specs.Table.{Table}
use Rattle.script.specs.Tests.Laws.{both_true}
use Rattle.script.specs.Tree.{tree_of}
use Rattle.rules.specs.Evaluation.Every.{no_value, one_value}
use Rattle.rules.specs.Evaluation.Inside.{Inside, word_inside, truth_inside, location_inside, AllInside}
use Rattle.rules.proofs.Evaluation.Inside.{eval-inside}
use Rattle.rules.specs.Evaluation.Keeps.{OutcomeHas}
use Rattle.rules.specs.Running.{bits_at, value_by, values_of, valid_by, all_valid, right_cells, right_values, within_limits}
use Rattle.rules.proofs.Running.Laws.{length-values}
use Rattle.rules.specs.Running.Room.{outcome}
use Rattle.rules.proofs.Running.Room.{values_fit}

valid_value : (used k bits : ℕ) → valid_by used k bits ≡ true → Inside used (value_by k bits)
valid_value used zero bits h = word_inside
valid_value used (suc zero) bits h = truth_inside
valid_value used (suc (suc zero)) bits h = location_inside (ltb-true bits used h)
valid_value used (suc (suc (suc k))) bits h = absurd (false≢true h)

-- bytes that pass 34 are values inside the used cells
pub valid_inside : (used n : ℕ) (bs : List ℕ) → all_valid used n bs ≡ true → AllInside used (values_of n bs)
unfolding all_valid values_of
valid_inside used zero bs h = no_value
valid_inside used (suc n) bs h =
    let q = both_true (valid_by used (get_or bs 0 0) (bits_at bs)) (all_valid used n (drop 5 bs)) h in
    one_value (valid_value used (get_or bs 0 0) (bits_at bs) q.0) (valid_inside used n (drop 5 bs) q.1)

-- THE LAW: within the limits a run stays inside, whatever its table
pub outcome-inside : (t : Table) (values cells : List ℕ) (used : ℕ) → within_limits t values cells used ≡ true
    → OutcomeHas Inside (outcome t values cells used)
outcome-inside t values cells used h =
    let q = values_fit t.entry_count values cells used (both_true (right_cells cells used) (right_values t.entry_count values cells used) h).1 in
    let few = sym (length-values used cells) in
    eval-inside (tree_of t) (values_of t.entry_count values) (values_of used cells)
    (subst (λ (m : ℕ). AllInside m (values_of t.entry_count values)) few (valid_inside used t.entry_count values q.values_valid))
    (subst (λ (m : ℕ). AllInside m (values_of used cells)) few (valid_inside used used cells q.cells_valid))
