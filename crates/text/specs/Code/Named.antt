-- Names for what the functions that read a text hand to each other: the library's `Option` and `Result`, at our types. Assumes nothing.
use Rattle.std.specs.Prelude.{ℕ, Option, Result}
use Rattle.script.specs.declared.Refusal.{Refusal}
use Rattle.script.specs.declared.Script.{Script}
use Rattle.text.specs.declared.Scanned.{Scanned}

-- what a field says: a number, a type's code or a kind
abbrev pub Said : Type 0
Said = Option ℕ

-- an operand and the place after it
abbrev pub Operand : Type 0
Operand = Option (ℕ × ℕ)

-- a line's entry or node, and the place after its LF
abbrev pub Located : Type 0
Located = Option (Scanned × ℕ)

-- a script with one line more and where the next line starts; or why not
abbrev pub Step : Type 0
Step = Result (Script × ℕ) Refusal
