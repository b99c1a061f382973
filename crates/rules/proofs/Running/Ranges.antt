-- Evaluation on values of 32 bits gives values of 32 bits, as long as the cells stay within those that are lent. Assumes nothing.
use Rattle.std.specs.Prelude.{List, ℕ, ◌+◌, ◌≤◌, length}
use Rattle.std.proofs.Common.{arith}
use Rattle.script.specs.Tree.{Expr, size}
use Rattle.script.specs.declared.Value.{Value}
use Rattle.rules.specs.Evaluation.{Outcome, eval}
use Rattle.rules.specs.Evaluation.Every.{Every}
use Rattle.rules.proofs.Evaluation.Every.{every_also}
use Rattle.rules.specs.Evaluation.Keeps.{OutcomeHas, gave_has, failed_has}
use Rattle.rules.proofs.Evaluation.Keeps.{eval-keeps}
use Rattle.rules.specs.Evaluation.Laws.{cells_of}
use Rattle.rules.proofs.Evaluation.Laws.{eval-grows}
use Rattle.rules.specs.Running.{lent_limit}
use Rattle.rules.specs.Running.Laws.{InRange, word_in_range, truth_in_range, location_in_range, AllInRange}
use Rattle.rules.specs.Running.Ranges.{OutcomeInRange, failed_in_range, gave_in_range}

-- a value of 32 bits, if there are no more cells than are lent
record Lent (m : ℕ) (v : Value) : Type 0 where
  ranged : m ≤ lent_limit → InRange v

all-lent : {vs : List Value} (m : ℕ) → AllInRange vs → Every (Lent m) vs
all-lent m rs = every_also (λ v r. record { ranged = λ h. r }) rs

few-lent : {o : Outcome} → length (cells_of o) ≤ lent_limit → OutcomeHas Lent o → OutcomeInRange o
few-lent h (gave_has i is) = gave_in_range (i.ranged h) (every_also (λ v j. j.ranged h) is)
few-lent h (failed_has is) = failed_in_range (every_also (λ v j. j.ranged h) is)

pub eval_in_range : (e : Expr) {env cs : List Value} → AllInRange env → AllInRange cs → length cs + size e ≤ lent_limit → OutcomeInRange (eval e env cs)
eval_in_range e {env} {cs} re rs l =
    let g = eval-grows e env cs in
    few-lent (omega (arith, g.bounded, l))
    (eval-keeps Lent
    (record {
      word = λ m w h. record { ranged = λ k. word_in_range h };
      truth = λ m b. record { ranged = λ k. truth_in_range };
      next = λ m. record { ranged = λ k. location_in_range {l = m} (omega arith) };
      more = λ m k v h i. record { ranged = λ j. i.ranged (omega arith) };
    })
    e env cs (all-lent (length cs) re) (all-lent (length cs) rs))
