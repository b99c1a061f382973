-- Locations stay inside: from an environment and cells whose locations are all below the used count, evaluation ends with a value and cells of which
-- the same holds, or in the error state with such cells. A `get` or a `set` through such a location finds its cell. Assumes nothing.
use Rattle.std.specs.Prelude.{List, ◌≡◌, ℕ, ◌≤◌, length, set}
use Rattle.std.proofs.Math.Option.{Option}
use Rattle.std.proofs.Common.{ap, arith}
use Rattle.script.specs.Rows.{get_op, set_op}
use Rattle.script.specs.Tree.{Expr}
use Rattle.script.specs.declared.Value.{Value}
use Rattle.script.specs.declared.Value.TheVariants.{Location}
use Rattle.rules.specs.Evaluation.{gave, failed, found, unary_on, binary_on, eval}
use Rattle.rules.specs.Evaluation.Keeps.{OutcomeHas}
use Rattle.rules.proofs.Evaluation.Keeps.{eval-keeps}
use Rattle.rules.proofs.Typings.Laws.{at-found, below_at}
use Rattle.rules.specs.Evaluation.Inside.{AllInside, Content, Inside, location_inside, truth_inside, word_inside}

pub get_finds : {l : ℕ} (cs : List Value) → Inside (length cs) (Location l) → Content cs l
get_finds {l} cs (location_inside b) = let q = below_at cs l b in record { value = q.0; is = at-found q.1 }

-- `get` gives what the cell holds: its error state for a missing cell is never taken
pub get_gives : (n : ℕ) {l : ℕ} (cs : List Value) (h : Inside (length cs) (Location l))
    → unary_on n get_op (Location l) cs ≡ gave (get_finds cs h).value cs
unfolding unary_on
get_gives n cs h = ap (λ (o : Option Value). found o (failed n cs) λ u. gave u cs) (get_finds cs h).is

-- nor is that of `set`
pub set_gives : (n : ℕ) {l : ℕ} (w : Value) (cs : List Value) → Inside (length cs) (Location l)
    → binary_on n set_op (Location l) w cs ≡ gave w (set cs l w)
unfolding binary_on
set_gives n {l} w cs h = ap (λ (o : Option Value). found o (failed n cs) λ u. gave w (set cs l w)) (get_finds cs h).is

-- ---- evaluation

-- more cells keep what is inside
inside-more : {m k : ℕ} {v : Value} → m ≤ k → Inside m v → Inside k v
inside-more h word_inside = word_inside
inside-more h truth_inside = truth_inside
inside-more h (location_inside {l = l} b) = location_inside {l = l} (omega arith)

-- THE LAW: from an environment and cells inside the cells, a run ends with a value and cells inside the cells that there are then
pub eval-inside : (e : Expr) (env cs : List Value) → AllInside (length cs) env → AllInside (length cs) cs → OutcomeHas Inside (eval e env cs)
eval-inside =
    eval-keeps Inside
    (record {
      word = λ m w h. word_inside;
      truth = λ m b. truth_inside;
      next = λ m. location_inside {l = m} (omega arith);
      more = λ m k v h i. inside-more h i;
    })
