-- What the functions on a workspace hand to each other, by short names. Assumes nothing.
use Rattle.std.specs.Prelude.{ℕ, Option, Result}
use Rattle.script.specs.declared.Refusal.{Refusal}
use Rattle.workspace.specs.declared.Branch.{Branch}

-- what `get` finds: a value's type and place, or nothing
abbrev pub Found : Type 0
Found = Option (ℕ × ℕ)

-- what the notes say of a block: its type, or nothing
abbrev pub Known : Type 0
Known = Option ℕ

-- how many variables a note names, or nothing where they are too many
abbrev pub Count : Type 0
Count = Option ℕ

-- a path's step: a value's type and place, or a refusal that ends the path
abbrev pub Step : Type 0
Step = Result (ℕ × ℕ) Refusal

-- what becomes of an `if`: a branch, both, or a refusal
abbrev pub Choice : Type 0
Choice = Result Branch Refusal
