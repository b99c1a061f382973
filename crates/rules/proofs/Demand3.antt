-- Demand 3 (docs/RUNS.md): an accepted script, run within the limits on any cells and entry values that some typing fits, ends with a value, never in
-- the error state, never with a refusal; every such typing has an extension that fits the end cells and gives the value the reported type.
-- Proved over the rules and evaluation, for every path limit. Assumes nothing.
use Rattle.std.specs.Prelude.{◌≡◌, refl, Bool, true, List, ℕ, ◌*◌, ◌≤◌, length, drop, Ok}
use Rattle.std.proofs.Common.{sym, ap, ◌∙◌, subst, arith}
use Rattle.std.proofs.Math.Option.{Option, none, some}
use Rattle.script.specs.Table.{Table, entries_of, table_test}
use Rattle.script.specs.Tests.{need}
use Rattle.script.specs.Tests.Laws.{both_true}
use Rattle.script.specs.Tree.{tree_of}
use Rattle.script.specs.declared.Refusal.{Refusal}
use Rattle.script.specs.declared.Refusal.TheVariants.{BadCells, BadValues}
use Rattle.script.specs.declared.Value.{Value}
use Rattle.rules.specs.Checking.{check, answered, check_table}
use Rattle.rules.specs.Evaluation.{Outcome}
use Rattle.rules.specs.Evaluation.Every.{no_value, one_value}
use Rattle.rules.specs.Evaluation.Laws.{cells_of}
use Rattle.rules.specs.Running.{Run, values_of, finished, ran_by, right_cells, right_values, within_limits, run_test, run_table, lent_limit}
use Rattle.rules.specs.Running.Laws.{InRange, word_in_range, truth_in_range, location_in_range, AllInRange}
use Rattle.rules.proofs.Running.Laws.{values-bytes}
use Rattle.rules.specs.Running.Room.{outcome}
use Rattle.rules.proofs.Running.Room.{cells_suffice}
use Rattle.rules.specs.Typings.{HasType, is_word, is-truth, is_location, empty, also, Fits, HaveTypes}
use Rattle.rules.proofs.Typings.Laws.{at-below, each-length}
use Induction.{typed-promise}
use Rattle.rules.specs.Demand3.Promises.{Promise, kept}
use Rattle.rules.specs.Demand3.{EndsWithValue}
use Rattle.script.specs.Answers.Named.{Checked}
pub mod Congruence
pub mod Induction
pub mod Meaning
pub mod Memory
pub mod Promises
pub mod Stands
pub mod SymbolicOperators
pub mod TypedOperators

-- ---- from trees to whole answers

-- cells that a typing of few cells fits stand whole in their bytes
in_range : {typing : List ℕ} {v : Value} {t : ℕ} → length typing ≤ lent_limit → HasType typing v t → InRange v
in_range h (is_word k) = word_in_range k
in_range h is-truth = truth_in_range
in_range h (is_location {l = l} a k) = let b = at-below a in location_in_range {l = l} (omega arith)

all_in_range : {typing : List ℕ} {vs : List Value} {ts : List ℕ} → length typing ≤ lent_limit → HaveTypes typing vs ts → AllInRange vs
all_in_range h empty = no_value
all_in_range h (also k ks) = one_value (in_range h k) (all_in_range h ks)

ended : {typing : List ℕ} {type : ℕ} (cells : List ℕ) {o : Outcome} → length (cells_of o) ≤ lent_limit → Promise typing (Ok type) o
    → EndsWithValue typing type (finished cells o)
ended cells few (kept {v = v} {cs = cs} q) =
    record {
      value = v;
      used = length cs;
      answers = refl;
      extension = q.extension;
      extends = q.extends;
      fits =
          let ranged = all_in_range (omega (arith, each-length q.fits)) q.fits in
          subst (λ (vs : List Value). Fits q.extension vs) (sym (values-bytes (drop (5 * length cs) cells) ranged)) q.fits;
      typed = q.typed;
    }

run_passes : (t : Table) (values cells : List ℕ) (used : ℕ) → within_limits t values cells used ≡ true → run_test t values cells used ≡ none
unfolding run_test
run_passes t values cells used h =
    let r = both_true (right_cells cells used) (right_values t.entry_count values cells used) h in
    ap (λ (b : Bool). need b BadCells (need (right_values t.entry_count values cells used) BadValues none)) r.0
    ∙ ap (λ (b : Bool). need b BadValues none) r.1

run_finishes : (t : Table) (values cells : List ℕ) (used : ℕ) → table_test t ≡ none → within_limits t values cells used ≡ true
    → run_table t values cells used ≡ finished cells (outcome t values cells used)
unfolding run_table
run_finishes t values cells used e h =
    ap (λ (r : Option Refusal). ran_by r cells (ran_by (run_test t values cells used) cells (finished cells (outcome t values cells used)))) e
    ∙ ap (λ (r : Option Refusal). ran_by r cells (finished cells (outcome t values cells used))) (run_passes t values cells used h)

-- an accepted table passes the tests, and its tree is accepted
accepted_passes : (limit : ℕ) (t : Table) (type : ℕ) → check_table limit t ≡ Ok type
    → (table_test t ≡ none) × (check limit (tree_of t) (entries_of t) ≡ Ok type)
unfolding check_table
accepted_passes limit t type e = go (table_test t) refl e
  where
    go : (r : Option Refusal) → table_test t ≡ r → answered r (check limit (tree_of t) (entries_of t)) ≡ Ok type
        → (table_test t ≡ none) × (check limit (tree_of t) (entries_of t) ≡ Ok type)
    go none p q = (p, q)
    go (some r) p q = let z : ◌≡◌ {A = ℕ} 0 1 = cc in absurd (omega arith)

-- ---- demand 3

pub accepted_ends_with_value : (limit : ℕ) (t : Table) (type : ℕ) (values cells : List ℕ) (used : ℕ) (typing : List ℕ)
    → check_table limit t ≡ Ok type
    → within_limits t values cells used ≡ true
    → Fits typing (values_of used cells)
    → HaveTypes typing (values_of t.entry_count values) (entries_of t)
    → EndsWithValue typing type (run_table t values cells used)
accepted_ends_with_value limit t type values cells used typing accepted within fits entries =
    let a = accepted_passes limit t type accepted in
    subst (λ (r : Run). EndsWithValue typing type r) (sym (run_finishes t values cells used a.0 within))
    (ended cells (cells_suffice t values cells used a.0 within)
    (subst (λ (c : Checked). Promise typing c (outcome t values cells used)) a.1 (typed-promise limit (tree_of t) entries fits)))
