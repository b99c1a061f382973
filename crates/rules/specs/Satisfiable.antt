-- Satisfiable formulas (docs/CHECKS.md, 'Symbolic mode'): some assignment of true and false to the different atoms makes the formula true.
-- Assumes nothing.
pub mod Laws
pub mod Disjoint
use Rattle.std.specs.Prelude.{Bool, false, not, ◌&&◌, ◌||◌, List, [], ◌∷◌, ◌++◌}
use Rattle.std.specs.Bool.{beq}
use Rattle.script.specs.Tests.{pick}
use Rattle.rules.specs.Symbolic.{Atom, Formula, constantly, atom, negation, conjunction, equality, same_atom}

-- what a formula is under an assignment of the atoms
unfoldable pub holds : (Atom → Bool) → Formula → Bool
holds a (constantly b) = b
holds a (atom x) = a x
holds a (negation f) = not (holds a f)
holds a (conjunction f g) = holds a f && holds a g
holds a (equality f g) = beq (holds a f) (holds a g)

-- every atom counts
unfoldable pub atoms_of : Formula → List Atom
atoms_of (constantly b) = []
atoms_of (atom x) = x ∷ []
atoms_of (negation f) = atoms_of f
atoms_of (conjunction f g) = atoms_of f ++ atoms_of g
atoms_of (equality f g) = atoms_of f ++ atoms_of g

-- whether the list has the same atom
unfoldable pub among : List Atom → Atom → Bool
among [] x = false
among (y ∷ ys) x = same_atom y x || among ys x

unfoldable pub different : List Atom → List Atom
different [] = []
different (x ∷ xs) = pick (among (different xs) x) (different xs) (x ∷ different xs)

abbrev pub different_atoms : Formula → List Atom
different_atoms f = different (atoms_of f)

-- some choice of true atoms, beside those chosen already, makes the formula true
unfoldable pub some_choice : List Atom → List Atom → Formula → Bool
some_choice chosen [] f = holds (among chosen) f
some_choice chosen (x ∷ xs) f = some_choice (x ∷ chosen) xs f || some_choice chosen xs f

unfoldable pub satisfiable : Formula → Bool
satisfiable f = some_choice [] (different_atoms f) f
