-- The numbers in the input of a trial program: a digit, a number with a byte after it, and a header. Assumes nothing.
use Rattle.std.specs.Prelude.{cond, ◌&&◌, List, [], ◌∷◌, ℕ, suc, ◌+◌, ◌*◌, ◌-◌, leb, eqb, drop, Option, Some, None, option_and_then}
use Rattle.trial.specs.declared.Header.{Header}
pub mod Laws

-- the largest number that is read
abbrev pub largest : ℕ
largest = 9999999

-- the digit that a byte spells
unfoldable pub digit_of : ℕ → Option ℕ
digit_of b = cond (leb 48 b && leb b 57) (Some (b - 48)) None

-- a number, and the place after it
abbrev pub Number : Type 0
Number = Option (ℕ × ℕ)

-- the bytes from the place i on, after digits that make v: more digits, and the byte `stop`
unfoldable pub number_from : ℕ → ℕ → ℕ → List ℕ → Number
number_from stop v i [] = None
number_from stop v i (c ∷ cs) =
    cond (eqb c stop) (cond (leb v largest) (Some (v, suc i)) None)
    (option_and_then (λ d. number_from stop (v * 10 + d) (suc i) cs) (digit_of c))

-- the same from the first digit on, of which there is one at least
abbrev pub number_in : ℕ → ℕ → List ℕ → Number
number_in stop i [] = None
number_in stop i (c ∷ cs) = cond (eqb c stop) None (number_from stop 0 i (c ∷ cs))

-- the number at a place of the input, and the place after the byte `stop`
unfoldable pub number_at : ℕ → List ℕ → ℕ → Number
number_at stop input at = number_in stop at (drop at input)

-- ---- headers: two numbers, each with a tab after it, and the place after them

abbrev pub header_of : ℕ → ℕ → ℕ → Header
header_of first second name = record { first = first; second = second; name = name }

abbrev pub header_with : ℕ → Number → Option Header
header_with first None = None
header_with first (Some (second, name)) = Some (header_of first second name)

abbrev pub header_after : List ℕ → Number → Option Header
header_after input None = None
header_after input (Some (first, next)) = header_with first (number_at 9 input next)

unfoldable pub header_at : List ℕ → ℕ → Option Header
header_at input at = header_after input (number_at 9 input at)
