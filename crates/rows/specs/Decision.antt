-- The decision at an `if` as the symbolic rules make it: too many atoms, or the branches that some assignment allows. Assumes nothing.
use Rattle.std.specs.Prelude.{Bool, true, false, leb, length}
use Rattle.script.specs.Tests.{pick}
use Rattle.rules.specs.Satisfiable.{satisfiable, different_atoms}
use Rattle.rules.specs.Symbolic.{Formula, negation, conjunction}
use Rattle.rules.specs.SymbolicRules.{atom_limit}
use Rattle.rows.specs.declared.Decision.{Decision}
use Rattle.rows.specs.declared.Decision.TheVariants.{TooMany, Both, OnlyTrue, OnlyFalse}

-- by whether the true branch and whether the false branch is allowed
unfoldable pub branches_of : Bool → Bool → Decision
branches_of true true = Both
branches_of true false = OnlyTrue
branches_of false b = OnlyFalse

-- the other branch is impossible
abbrev pub only_one : Decision → Bool
only_one TooMany = false
only_one Both = false
only_one OnlyTrue = true
only_one OnlyFalse = true

unfoldable pub decision_of : Formula → Formula → Decision
decision_of f g =
    pick (leb (length (different_atoms (conjunction f g))) atom_limit)
    (branches_of (satisfiable (conjunction f g)) (satisfiable (conjunction f (negation g))))
    TooMany
