-- References by their places: a place is a symbol and its origin in one number. And when two of them are certainly different cells. Assumes nothing.
pub mod Laws
use Rattle.std.specs.Prelude.{Bool, ◌≡◌, ℕ, zero, suc, ◌+◌, ◌*◌, ◌/◌, ◌%◌}
use Rattle.rules.specs.Symbolic.{Origin, made, initial, other, apart}
use Rattle.terms.specs.declared.references.Origin.{Origin as Named}
use Rattle.terms.specs.declared.references.Origin.TheVariants.{Other, Initial, Made}

-- how many numbers a place has room for as its origin's, and that of each origin: 0 is none's, and counts as any other
abbrev pub origins : ℕ
origins = 4

abbrev pub origin_number : Origin → ℕ
origin_number other = 1
origin_number initial = 2
origin_number made = 3

abbrev pub origin_by : ℕ → Origin
origin_by zero = other
origin_by (suc zero) = other
origin_by (suc (suc zero)) = initial
origin_by (suc (suc (suc n))) = made

-- the number of an origin
abbrev pub IsOrigin : ℕ → Type 0
IsOrigin n = n ≡ origin_number (origin_by n)

-- the origin that the code names
abbrev pub origin_as : Named → Origin
origin_as Other = other
origin_as Initial = initial
origin_as Made = made

-- the place of a reference, and its symbol and origin by its place
abbrev pub reference_at : Origin → ℕ → ℕ
reference_at o s = origins * s + origin_number o

abbrev pub symbol_at : ℕ → ℕ
symbol_at q = q / origins

abbrev pub origin_at : ℕ → Origin
origin_at q = origin_by (q % origins)

-- the references at two places are certainly different cells
unfoldable pub apart_at : ℕ → ℕ → Bool
apart_at p q = apart (origin_at p) (symbol_at p) (origin_at q) (symbol_at q)
