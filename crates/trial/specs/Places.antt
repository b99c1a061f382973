-- Places in the input of a trial program: the ends of names and texts. Each is given the rest of the input from its start on. Assumes nothing.
use Rattle.std.specs.Prelude.{Bool, true, cond, ◌&&◌, List, [], ◌∷◌, ℕ, suc, ltb, eqb, drop, Option, Some, None}
pub mod Laws

-- the place of the first LF, if no byte before it is below the blank; cs starts at i
unfoldable pub line_end : ℕ → List ℕ → Option ℕ
line_end i [] = None
line_end i (c ∷ cs) = cond (eqb c 10) (Some i) (cond (ltb c 32) None (line_end (suc i) cs))

-- the end of a name, if the name has a byte
abbrev pub past : ℕ → Option ℕ → Option ℕ
past at None = None
past at (Some k) = cond (ltb at k) (Some k) None

-- the end of the name at a place of the input, if there is a name and such an LF
abbrev pub name_end : List ℕ → ℕ → Option ℕ
name_end input at = past at (line_end at (drop at input))

-- the place of the first empty line; cs starts at i, where a line starts or not
unfoldable pub empty_line : Bool → ℕ → List ℕ → Option ℕ
empty_line starts i [] = None
empty_line starts i (c ∷ cs) = cond (starts && eqb c 10) (Some i) (empty_line (eqb c 10) (suc i) cs)

-- the end of the text at a place of the input
abbrev pub text_end : List ℕ → ℕ → Option ℕ
text_end input at = empty_line true at (drop at input)
