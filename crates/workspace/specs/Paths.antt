-- What the functions on a path's own numbers promise: fresh symbols, the condition, and its start. Assumes nothing.
pub mod Beginning
pub mod Conditions
pub mod Decisions
pub mod Empty
pub mod Symbols
use Rattle.std.specs.Prelude.{List, ◌≡◌, ℕ, ◌+◌, ◌≤◌, ◌<◌, length, get_or, set}
use Rattle.rules.specs.Paths.{Path, taken, start}
use Rattle.rules.specs.Symbolic.{Origin, symbol, symbols}
use Rattle.terms.specs.Terms.{count_in, pushed, Distinct}
use Rattle.workspace.specs.Numbers.{fresh_place, fresh_left}
use Rattle.workspace.specs.Places.{base_at, condition_at, known_at, space_size}
use Rattle.workspace.specs.Rules.{Ruled}
use Rattle.workspace.specs.State.{next_in, condition_in, writes_in, types_on, Means, Variables, PathIn}

-- a fresh symbol of type t, with this origin
pub record Fresh (o : Origin) (t : ℕ) (ws : List ℕ) (q : ℕ) (left : List ℕ) : Type 0 where
  pub ruled : Ruled ws left
  pub means : Distinct ws → Means left t q (symbol o t (next_in ws))
  pub path : (p : Path) → PathIn ws p → PathIn left (taken p)
  pub condition : condition_in left ≡ condition_in ws
  pub writes : writes_in left ≡ writes_in ws
  pub most : count_in left ≤ count_in ws + 1
  pub place_is : q ≡ fresh_place o t ws
  pub left_is : left ≡ fresh_left t ws

-- the condition joined by a guard, with this operator
abbrev pub assumed : List ℕ → ℕ → ℕ → List ℕ
assumed ws op guard = set (pushed ws op (condition_in ws) guard) condition_at (count_in ws)

-- nothing is known of the condition any more
abbrev pub forgotten : List ℕ → List ℕ
forgotten ws = set ws known_at 0

-- only what is known of it changes
pub record Learns (ws left : List ℕ) : Type 0 where
  pub same : length left ≡ length ws
  pub before : (k : ℕ) → k < known_at → get_or left k 0 ≡ get_or ws k 0

-- ---- the start of a path

-- a workspace that holds nothing yet
pub record Blank (ws : List ℕ) : Type 0 where
  pub lent : space_size ≤ length ws
  pub zeros : (k : ℕ) → get_or ws k 0 ≡ 0

-- the first i variables are symbols
pub record Starting (types ws : List ℕ) (i : ℕ) : Type 0 where
  pub lent : space_size ≤ length ws
  pub rows : count_in ws ≤ 1 + i
  pub first : 1 ≤ count_in ws
  pub next : next_in ws ≡ i
  pub condition : condition_in ws ≡ 0
  pub writes : writes_in ws ≡ 0
  pub bare : (k : ℕ) → base_at ≤ k → k < known_at → get_or ws k 0 ≡ 0
  pub path : PathIn ws (start i)
  pub variables : Variables ws i (symbols 0 (types_on types i))
