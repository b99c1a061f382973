-- Names for what the rules of evaluation answer: the library's `Option` and `Result`, at our types. Assumes nothing.
use Rattle.std.specs.Prelude.{ℕ, Option, Result}
use Rattle.script.specs.declared.Value.{Value}

-- a value and the used count, or the node of the error state and the used count
abbrev pub Step : Type 0
Step = Result (Value × ℕ) (ℕ × ℕ)

-- the operand that comes next, unless the condition is no truth
abbrev pub Next : Type 0
Next = Option ℕ
