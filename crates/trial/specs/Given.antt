-- Lines of decimal bytes in the input of a trial program. Assumes nothing.
use Rattle.std.specs.Prelude.{cond, Bool, true, false, List, [], ◌∷◌, ◌++◌, ℕ, suc, leb, eqb, drop, Option, Some, None}
use Rattle.trial.specs.declared.given.Byte.{Byte}
use Rattle.trial.specs.Numbers.{Number, number_at}
pub mod Laws

-- a byte that is the last of its line or not, and the place after it
abbrev pub byte_of : ℕ → Bool → ℕ → Byte
byte_of v last next = record { value = v; last = last; next = next }

-- a number that a byte can hold, with a blank after it or an LF
abbrev pub byte_by : Number → Number → Option Byte
byte_by (Some (v, next)) other = cond (leb v 255) (Some (byte_of v false next)) None
byte_by None (Some (v, next)) = cond (leb v 255) (Some (byte_of v true next)) None
byte_by None None = None

unfoldable pub byte_at : List ℕ → ℕ → Option Byte
byte_at input at = byte_by (number_at 32 input at) (number_at 10 input at)

-- what reading a line gives: the count of its bytes and the place after it, and what the lent bytes then hold
pub record Line : Type 0 where
  pub answer : Number
  pub bytes : List ℕ

abbrev pub line : Number → List ℕ → Line
line r bs = record { answer = r; bytes = bs }

-- the line after these bytes
abbrev pub after : List ℕ → Line → Line
after bs l = line l.answer (bs ++ l.bytes)

-- a byte goes into the lent bytes, of which the first is o, and the others come later; what is not of the form changes none of them
abbrev pub line_by : Option Byte → ℕ → ℕ → List ℕ → (ℕ → Line) → Line
line_by (Some b) n o os later = cond b.last (line (Some (suc n, b.next)) (b.value ∷ os)) (after (b.value ∷ []) (later b.next))
line_by None n o os later = line None (o ∷ os)

-- the bytes from the place i on, after n of the line
unfoldable pub bytes_from : List ℕ → ℕ → ℕ → List ℕ → Line
bytes_from input n i [] = line None []
bytes_from input n i (o ∷ os) = line_by (byte_at input i) n o os (λ next. bytes_from input (suc n) next os)

-- the line at a place of the input; an empty one has no bytes
abbrev pub line_in : List ℕ → ℕ → List ℕ → List ℕ → Line
line_in input at out [] = line None out
line_in input at out (c ∷ cs) = cond (eqb c 10) (line (Some (0, suc at)) out) (bytes_from input 0 at out)

unfoldable pub bytes_line : List ℕ → ℕ → List ℕ → Line
bytes_line input at out = line_in input at out (drop at input)
