-- Tests, first refusals and lowest places: the few general functions that the definitions are written with. Assumes nothing.
use Rattle.std.specs.Prelude.{Bool, true, false, ◌&&◌, List, [], ◌∷◌, ℕ, zero, suc}
use Rattle.std.proofs.Math.Option.{Option, none, some}
use Rattle.std.specs.List.{list_all}
pub mod Bits
pub mod Laws
pub mod Loops

module _ {A : Type 0} where
  -- one of two, by a test
  abbrev pub pick : Bool → A → A → A
  pick true a b = a
  pick false a b = b

  -- every element passes the test: the library's word for it
  abbrev pub all : (A → Bool) → List A → Bool
  all = list_all

-- the lowest of the k numbers from i on that passes the test
unfoldable pub lowest_from : (ℕ → Bool) → ℕ → ℕ → Option ℕ
lowest_from p i zero = none
lowest_from p i (suc k) = pick (p i) (some i) (lowest_from p (suc i) k)

-- the lowest number below k that passes the test
abbrev pub lowest : (ℕ → Bool) → ℕ → Option ℕ
lowest p k = lowest_from p 0 k

module _ {R : Type 0} where
  -- the refusal r where the test fails, else what the later tests say
  abbrev pub need : Bool → R → Option R → Option R
  need true r later = later
  need false r later = some r

  -- the refusal of the place found, else what the later tests say
  abbrev pub need_none : Option ℕ → (ℕ → R) → Option R → Option R
  need_none none r later = later
  need_none (some i) r later = some (r i)
