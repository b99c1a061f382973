-- What `decide` promises: the rules' decision, where the two rows stand for a satisfiable condition and a guard and what is known is the condition's. If one
-- branch is possible only, what is known then is the truths of what is assumed with it; else no number changes. Assumes nothing.
use Rattle.std.specs.Prelude.{true, List, ◌≡◌, ℕ, ◌+◌, ◌≤◌, ◌<◌, length, get_or}
use Rattle.rules.specs.Satisfiable.{satisfiable}
use Rattle.rules.specs.Symbolic.{Formula, negation, conjunction}
use Rattle.terms.specs.Places.{row_limit, rows_end}
use Rattle.terms.specs.Terms.{count_in, Space, TruthRow, Distinct}
use Rattle.rows.specs.Code.{known_size, Sound, decided, LeftBy}
use Rattle.rows.specs.Decision.{decision_of}
use Rattle.rows.specs.declared.Decision.{Decision}
use Rattle.rows.specs.declared.Decision.TheVariants.{TooMany, Both, OnlyTrue, OnlyFalse}
use Rattle.rows.specs.Known.{Remembers}

-- the numbers and rows that it takes
pub record Decidable (ws : List ℕ) (at c g : ℕ) : Type 0 where
  pub behind : rows_end ≤ at
  pub lent : at + known_size ≤ length ws
  pub sound : Sound ws at
  pub low : c < row_limit
  pub high : g < row_limit

-- the rows stand for a satisfiable condition and a guard
pub record Asked (ws : List ℕ) (c g : ℕ) (f h : Formula) : Type 0 where
  pub space : Space ws 0
  pub distinct : Distinct ws
  pub condition : TruthRow ws c f
  pub guard : TruthRow ws g h
  pub low : c < count_in ws
  pub high : g < count_in ws
  pub allowed : satisfiable f ≡ true

pub record Decides (ws : List ℕ) (at c g : ℕ) (r : Decision) (left : List ℕ) : Type 0 where
  pub is : r ≡ decided ws at c g
  pub leaves : LeftBy ws at c g r left
  pub same : length left ≡ length ws
  pub before : (k : ℕ) → k < at → get_or left k 0 ≡ get_or ws k 0
  pub beyond : (k : ℕ) → at + known_size ≤ k → get_or left k 0 ≡ get_or ws k 0
  pub both : r ≡ Both → left ≡ ws
  pub many : r ≡ TooMany → left ≡ ws
  pub rules : (f h : Formula) → Asked ws c g f h → Remembers ws at f → r ≡ decision_of f h
  pub with_guard_lem : (f h : Formula) → Asked ws c g f h → Remembers ws at f → r ≡ OnlyTrue → Remembers left at (conjunction f h)
  pub without-guard : (f h : Formula) → Asked ws c g f h → Remembers ws at f → r ≡ OnlyFalse → Remembers left at (conjunction f (negation h))
