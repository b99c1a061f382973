-- What a field says (docs/SCRIPTS.md): a number, a type or a word. Assumes nothing.
use Rattle.std.specs.Prelude.{Bool, true, false, not, ◌&&◌, List, [], ◌∷◌, ℕ, suc, ◌+◌, ◌*◌, ◌-◌, leb, eqb, length}
use Rattle.std.proofs.Math.Option.{Option, none, some}
use Rattle.script.specs.Limits.{type_limit}
use Rattle.script.specs.Rows.{Row, rows, row_of}
use Rattle.script.specs.Tests.{pick, all, lowest}
use Rattle.text.specs.Bytes.{digit0, digit9, letter_b, letter_i, letter_r}
pub mod Laws
pub mod Words

-- what is said where a test passes
abbrev pub given : Bool → ℕ → Option ℕ
given true n = some n
given false n = none

-- ---- numbers: decimal without leading zeros, up to a limit

abbrev pub is_digit : ℕ → Bool
is_digit c = leb digit0 c && leb c digit9

abbrev pub decimal : List ℕ → Bool
decimal [] = false
decimal (c ∷ []) = is_digit c
decimal (c ∷ d ∷ cs) = not (eqb c digit0) && all is_digit (c ∷ d ∷ cs)

-- the number that the digits make after n
unfoldable pub value_after : ℕ → List ℕ → ℕ
value_after n [] = n
value_after n (c ∷ cs) = value_after (10 * n + (c - digit0)) cs

unfoldable pub decimal_up_to : ℕ → List ℕ → Option ℕ
decimal_up_to m f = given (decimal f && leb (value_after 0 f) m) (value_after 0 f)

-- ---- types: 0 to 15 letters r, then i or b

abbrev pub last_letter : ℕ → ℕ → List ℕ → Option ℕ
last_letter t c [] = pick (eqb c letter_i) (some t) (pick (eqb c letter_b) (some (suc t)) none)
last_letter t c (d ∷ cs) = none

-- the code of the type, where the letters r before have made t
unfoldable pub type_after : ℕ → List ℕ → Option ℕ
type_after t [] = none
type_after t (c ∷ cs) = pick (eqb c letter_r) (type_after (suc (suc t)) cs) (last_letter t c cs)

abbrev pub type_up_to : ℕ → Option ℕ → Option ℕ
type_up_to m none = none
type_up_to m (some t) = given (leb t m) t

unfoldable pub type_of : List ℕ → Option ℕ
type_of f = type_up_to type_limit (type_after 0 f)

-- ---- words

unfoldable pub same_bytes : List ℕ → List ℕ → Bool
same_bytes [] [] = true
same_bytes [] (d ∷ ds) = false
same_bytes (c ∷ cs) [] = false
same_bytes (c ∷ cs) (d ∷ ds) = eqb c d && same_bytes cs ds

abbrev pub word_is : Option Row → List ℕ → Bool
word_is none f = false
word_is (some r) f = same_bytes r.word f

-- the kind whose word this is
unfoldable pub kind_named : List ℕ → Option ℕ
kind_named f = lowest (λ k. word_is (row_of k) f) (length rows)
