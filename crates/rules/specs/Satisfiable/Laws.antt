-- `satisfiable` is what its name says: it is passed by the formulas that some assignment makes true, where an assignment gives the same truth to
-- atoms that are the same. Of a satisfiable condition one branch is satisfiable. Assumes nothing.
use Rattle.std.specs.Prelude.{Bool, true, List, [], ◌∷◌, ◌≡◌}
use Rattle.script.specs.Tests.{pick}
use Rattle.rules.specs.Symbolic.{Atom, same_atom}

-- an assignment that is one truth for atoms that are the same
pub record Respects (a : Atom → Bool) : Type 0 where
  pub same : (x y : Atom) → same_atom x y ≡ true → a x ≡ a y

-- ---- an assignment's choice

-- the atoms chosen already, and those of the list that the assignment makes true
unfoldable pub selected : (Atom → Bool) → List Atom → List Atom → List Atom
selected a chosen [] = chosen
selected a chosen (x ∷ xs) = selected a (pick (a x) (x ∷ chosen) chosen) xs
