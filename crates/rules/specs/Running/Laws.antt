-- The 5-byte form is read as it was written: the bytes of values in their range are those values, and bytes that are valid are the bytes of their
-- values; and the value at a place. Assumes nothing.
use Rattle.std.specs.Prelude.{Bool, List, ◌∷◌, ℕ, ◌^◌, ◌<◌, get_or}
use Rattle.rules.specs.Evaluation.Every.{Every}
use Rattle.script.specs.declared.Value.{Value}
use Rattle.script.specs.declared.Value.TheVariants.{Word, Truth, Location}

-- a word or a location of 32 bits, or a truth
pub data InRange : Value → Type 0 where
  word_in_range : {w : ℕ} → w < 2 ^ 32 → InRange (Word w)
  truth_in_range : {b : Bool} → InRange (Truth b)
  location_in_range : {l : ℕ} → l < 2 ^ 32 → InRange (Location l)

abbrev pub AllInRange : List Value → Type 0
AllInRange vs = Every InRange vs

-- ---- the value of bytes

pub record Bytes (bs : List ℕ) : Type 0 where
  pub byte : (i : ℕ) → get_or bs i 0 < 256

-- a list of at least five
pub data Five : List ℕ → Type 0 where
  five : (k a b c d : ℕ) (rest : List ℕ) → Five (k ∷ a ∷ b ∷ c ∷ d ∷ rest)
