-- Formulas that share no atom: beside a satisfiable one, the other is satisfiable if it is by itself, and only then. Assumes nothing.
use Rattle.std.specs.Prelude.{◌≡◌}
use Rattle.std.proofs.Math.Bool.{true}
use Rattle.rules.specs.Satisfiable.{atoms_of, among}
use Rattle.rules.specs.Symbolic.{Atom, Formula}

-- no atom of the one is the same as one of the other
pub record Disjoint (f g : Formula) : Type 0 where
  pub each : (z : Atom) → among (atoms_of f) z ≡ true → among (atoms_of g) z ≡ true → ⊥
