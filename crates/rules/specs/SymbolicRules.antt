-- The rules of the operators on symbolic values (docs/CHECKS.md, 'Nodes on a path'). Assumes nothing.
use Rattle.std.specs.Prelude.{Bool, true, false, List, [], ◌∷◌, ℕ, zero, suc, leb, eqb, length, Err, Ok}
use Rattle.std.proofs.Math.Option.{Option, none, some}
use Rattle.script.specs.Rows.{UnaryOp, not_op, ref_op, get_op, BinaryOp, add_op, eq_op, and_op, set_op}
use Rattle.script.specs.Tests.{pick}
use Rattle.script.specs.declared.Refusal.TheVariants.{WrongType, UnknownVariable, TooManyReferences, InconsistentLog, TooManyAtoms, PathTypesDiffer, TooManyPaths}
use Rattle.rules.specs.Paths.{Path, Paths, Leaf, ends, stops, forks, ended, stopped, assume, write_of, write, taken, forget, consistent, lookup, fresh}
use Rattle.rules.specs.Satisfiable.{satisfiable, different_atoms}
use Rattle.rules.specs.Symbolic.{Formula, negation, conjunction, equality, Origin, made, Sum, plus, Symbolic, a_word, a_truth, a_reference, type_of, equal_sums, equal_references}
use Rattle.rules.specs.TypedRules.{is_type}
use Rattle.script.specs.Answers.Named.{Checked}

-- a value of the type wanted, or else the other answer
abbrev pub word_of : Symbolic → Paths → (Sum → Paths) → Paths
word_of (a_word p) other k = k p
word_of (a_truth f) other k = other
word_of (a_reference o t s) other k = other

abbrev pub truth_of : Symbolic → Paths → (Formula → Paths) → Paths
truth_of (a_word p) other k = other
truth_of (a_truth f) other k = k f
truth_of (a_reference o t s) other k = other

abbrev pub reference_of : Symbolic → Paths → (Origin → ℕ → ℕ → Paths) → Paths
reference_of (a_word p) other k = other
reference_of (a_truth f) other k = other
reference_of (a_reference o t s) other k = k o t s

-- two values of one type
abbrev pub equal_to : Symbolic → Symbolic → Paths → (Formula → Paths) → Paths
equal_to (a_word p) w other k = word_of w other λ q. k (equal_sums p q)
equal_to (a_truth f) w other k = truth_of w other λ g. k (equality f g)
equal_to (a_reference o t s) w other k = reference_of w other λ p t' u. pick (eqb t t') (k (equal_references o s p u)) other

-- what `get` gives: the value found, of whatever type; where none is found the log must be consistent, and the value is a fresh symbol of the cell's type
abbrev pub got : ℕ → Option Symbolic → ℕ → Path → Paths
got n (some v) t p = ends v p
got n none t p = pick (consistent p) (fresh t p) (stops (InconsistentLog n))

unfoldable pub unary_exec : ℕ → UnaryOp → Symbolic → Path → Paths
unary_exec n not_op v p = truth_of v (stops (WrongType n)) λ f. ends (a_truth (negation f)) p
unary_exec n ref_op v p =
    let s = p.next in
    pick (is_type (suc (suc (type_of v))))
    (ends (a_reference made (type_of v) s) (write (write_of made (type_of v) s v) (taken p)))
    (stops (TooManyReferences n))
unary_exec n get_op v p = reference_of v (stops (WrongType n)) λ o t s. got n (lookup o s p.log) t p

unfoldable pub binary_exec : ℕ → BinaryOp → Symbolic → Symbolic → Path → Paths
binary_exec n add_op v w p = word_of v (stops (WrongType n)) λ a. word_of w (stops (WrongType n)) λ b. ends (a_word (plus a b)) p
binary_exec n eq_op v w p = equal_to v w (stops (WrongType n)) λ f. ends (a_truth f) p
binary_exec n and_op v w p =
    truth_of v (stops (WrongType n)) λ f. truth_of w (stops (WrongType n)) λ g. ends (a_truth (conjunction f g)) p
binary_exec n set_op v w p =
    reference_of v (stops (WrongType n)) λ o t s. ends w (write (write_of o t s w) p)

-- the branches that some assignment allows, the true one first; of a satisfiable condition one of them is allowed (`Satisfiable.Laws`)
unfoldable pub branches : Bool → Bool → (Path → Paths) → (Path → Paths) → Path → Path → Paths
branches true true e f p q = forks (e p) (f q)
branches true false e f p q = e p
branches false b e f p q = f q

abbrev pub atom_limit : ℕ
atom_limit = 10

-- at an `if`: 6, then 12, then the branches, each with its side added to the condition
unfoldable pub decide : ℕ → Symbolic → Path → (Path → Paths) → (Path → Paths) → Paths
decide n v p e f =
    truth_of v (stops (WrongType n)) λ g.
    let when_true = conjunction p.condition g in
    let when_false = conjunction p.condition (negation g) in
    pick (leb (length (different_atoms when_true)) atom_limit)
    (branches (satisfiable when_true) (satisfiable when_false) e f (assume when_true p) (assume when_false p))
    (stops (TooManyAtoms n))

-- after a typed block: the log must be consistent and is then empty, and the value is a fresh symbol
unfoldable pub typed_result : ℕ → Path → Checked → Paths
typed_result n p (Ok t) = pick (consistent p) (fresh t (forget p)) (stops (InconsistentLog n))
typed_result n p (Err r) = stops r

unfoldable pub variable : ℕ → Path → Option Symbolic → Paths
variable n p none = stops (UnknownVariable n)
variable n p (some v) = ends v p

-- ---- a `sym` in typed mode: its paths in order

-- the type of the first path, if that has one
abbrev pub first_type : List Leaf → ℕ
first_type [] = 0
first_type (ended v p ∷ ls) = type_of v
first_type (stopped r ∷ ls) = 0

-- at most `left` more paths; at a path's end the log is looked at first, then the type
unfoldable pub judge : ℕ → ℕ → ℕ → List Leaf → Checked
judge n left t [] = Ok t
judge n zero t (l ∷ ls) = Err (TooManyPaths n)
judge n (suc left) t (stopped r ∷ ls) = Err r
judge n (suc left) t (ended v p ∷ ls) =
    pick (consistent p) (pick (eqb (type_of v) t) (judge n left t ls) (Err (PathTypesDiffer n))) (Err (InconsistentLog n))

abbrev pub verdict : ℕ → ℕ → List Leaf → Checked
verdict n limit ls = judge n limit (first_type ls) ls
