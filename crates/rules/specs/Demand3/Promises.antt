-- What an answer of the rules promises of a run, where it is no refusal, and when a run follows a path of a decision tree. Each has one law of
-- sequencing, which mirrors the sequencing of the definitions. Assumes nothing.
use Rattle.std.specs.Prelude.{◌≡◌, true, List, ℕ, length, Err, Ok}
use Rattle.script.specs.declared.Refusal.{Refusal}
use Rattle.script.specs.declared.Value.{Value}
use Rattle.rules.specs.Demand3.Meaning.{Entry, atom_at}
use Rattle.rules.specs.Demand3.Memory.{Memory}
use Rattle.rules.specs.Demand3.Stands.{StandsFor}
use Rattle.rules.specs.Evaluation.{Outcome, gave}
use Rattle.rules.specs.Paths.{Path, Paths, ends, stops, forks}
use Rattle.rules.specs.Satisfiable.{holds}
use Rattle.rules.specs.Symbolic.{Symbolic}
use Rattle.rules.specs.Typings.{HasType, Fits, Extends}
use Rattle.script.specs.Answers.Named.{Checked}

-- ---- typed mode

-- some extension of the typing fits the cells and gives the value the type
pub record Ends (typing : List ℕ) (type : ℕ) (value : Value) (cells : List Value) : Type 0 where
  pub extension : List ℕ
  pub extends : Extends typing extension
  pub fits : Fits extension cells
  pub typed : HasType extension value type

-- an accepted tree ends with a value as said; where the rules refuse, nothing is promised
pub data Promise (typing : List ℕ) : Checked → Outcome → Type 0 where
  kept : {t : ℕ} {v : Value} {cs : List Value} → Ends typing t v cs → Promise typing (Ok t) (gave v cs)
  free : {r : Refusal} {o : Outcome} → Promise typing (Err r) o

-- ---- symbolic mode

-- the path's state is that of the run
pub record State (typing : List ℕ) (ρ : List Entry) (p : Path) (cells : List Value) : Type 0 where
  pub counted : p.next ≡ length ρ
  pub condition-holds : (later : List Entry) → Extends ρ later → holds (atom_at later) p.condition ≡ true
  pub memory : Memory typing ρ cells p.log

-- some extensions of typing and valuation make the path's end that of the run
pub record Reached (typing : List ℕ) (ρ : List Entry) (v : Symbolic) (p : Path) (value : Value) (cells : List Value) : Type 0 where
  pub extension : List ℕ
  pub valuation : List Entry
  pub extends : Extends typing extension
  pub extends-valuation : Extends ρ valuation
  pub stands : StandsFor extension valuation v value
  pub state : State extension valuation p cells

pub data Follows (typing : List ℕ) (ρ : List Entry) : Paths → Outcome → Type 0 where
  at_end_lem : {v : Symbolic} {p : Path} {x : Value} {cs : List Value} → Reached typing ρ v p x cs → Follows typing ρ (ends v p) (gave x cs)
  at-stop : {r : Refusal} {o : Outcome} → Follows typing ρ (stops r) o
  first : {t u : Paths} {o : Outcome} → Follows typing ρ t o → Follows typing ρ (forks t u) o
  second : {t u : Paths} {o : Outcome} → Follows typing ρ u o → Follows typing ρ (forks t u) o
