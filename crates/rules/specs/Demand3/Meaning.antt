-- What symbolic values mean under a valuation of the symbols: words of sums, truths of formulas. Equality of sums means equality of words, and what the
-- atoms are under a valuation respects sameness of atoms. Assumes nothing.
use Rattle.std.specs.Prelude.{Bool, false, List, [], ◌∷◌, ℕ, ◌+◌, ◌*◌, ◌%◌, ◌^◌, eqb}
use Rattle.std.proofs.Math.Option.{Option, none, some}
use Rattle.std.proofs.Math.ListN.{get_elem?}
use Rattle.script.specs.declared.Value.{Value}
use Rattle.script.specs.declared.Value.TheVariants.{Word, Truth, Location}
use Rattle.rules.specs.Symbolic.{Sum, Atom, truth_symbol, pair, difference, Origin}

-- what a symbol stands for: its origin and its value
pub record Entry : Type 0 where
  pub origin : Origin
  pub value : Value

abbrev pub entry : Origin → Value → Entry
entry o v = record { origin = o; value = v }

abbrev pub word_in : Value → ℕ
word_in (Word w) = w
word_in (Truth b) = 0
word_in (Location l) = 0

abbrev pub truth_in : Option Entry → Bool
truth_in none = false
truth_in (some e) = go e.value
  where
    go : Value → Bool
    go (Word w) = false
    go (Truth b) = b
    go (Location l) = false

abbrev pub location_in : Option Entry → ℕ
location_in none = 0
location_in (some e) = go e.value
  where
    go : Value → ℕ
    go (Word w) = 0
    go (Truth b) = 0
    go (Location l) = l

unfoldable pub weigh : List ℕ → List Entry → ℕ
weigh [] ρ = 0
weigh (k ∷ ks) [] = 0
weigh (k ∷ ks) (e ∷ ρ) = k * word_in e.value + weigh ks ρ

-- a sum before it is reduced, and its word
abbrev pub raw : List Entry → Sum → ℕ
raw ρ p = p.constant + weigh p.coefficients ρ

unfoldable pub sum_at : List Entry → Sum → ℕ
sum_at ρ p = raw ρ p % 2 ^ 32

unfoldable pub atom_at : List Entry → Atom → Bool
atom_at ρ (truth_symbol s) = truth_in (get_elem? ρ s)
atom_at ρ (pair s u) = eqb (location_in (get_elem? ρ s)) (location_in (get_elem? ρ u))
atom_at ρ (difference d) = eqb (sum_at ρ d) 0
