-- What a trial gives from the line of its values on: where the next one starts, none if it is malformed, and what the lent bytes then hold. Assumes nothing.
use Rattle.std.specs.Prelude.{List, ℕ, ◌+◌, ◌-◌, take, drop, Option, Some, None}
use Rattle.trial.specs.Numbers.{Number}
use Rattle.trial.specs.Given.{bytes_line}
use Rattle.trial.specs.Places.{text_end}
use Rattle.runs.specs.Outcome.{cells_after}
pub mod Laws

pub record Left : Type 0 where
  pub next : Option ℕ
  pub values : List ℕ
  pub before : List ℕ
  pub cells : List ℕ

abbrev pub left : Option ℕ → List ℕ → List ℕ → List ℕ → Left
left r values before cells = record { next = r; values = values; before = before; cells = cells }

module _ (input : List ℕ) (used : ℕ) where
  -- the text at `from`, up to an empty line, is run; without an empty line there is no run
  abbrev pub text_given : Option ℕ → ℕ → ℕ → List ℕ → List ℕ → List ℕ → Left
  text_given None from count values before cells = left None values before cells
  text_given (Some end) from count values before cells =
      left (Some (end + 1)) values before (cells_after (take (end - from) (drop from input)) (take count values) cells used)

  -- the line of the cells at `at` went into `before`; if it was one, it goes into the cells
  abbrev pub cells_given : Number → ℕ → ℕ → List ℕ → List ℕ → List ℕ → Left
  cells_given None at count values before cells = left None values before cells
  cells_given (Some (n, from)) at count values before cells =
      text_given (text_end input from) from count values before (bytes_line input at cells).bytes

  -- the line of the values went into `values`
  abbrev pub values_given : Number → List ℕ → List ℕ → List ℕ → Left
  values_given None values before cells = left None values before cells
  values_given (Some (count, next)) values before cells =
      cells_given (bytes_line input next before).answer next count values (bytes_line input next before).bytes cells

  unfoldable pub given_at : ℕ → List ℕ → List ℕ → List ℕ → Left
  given_at at values before cells = values_given (bytes_line input at values).answer (bytes_line input at values).bytes before cells
