-- Every path's condition is satisfiable, at its start and wherever it ends, so that at an `if` one of the branches is always possible (`one_branch`), and
-- a branch is followed exactly if it is. Every decision tree has a path. Assumes nothing.
use Rattle.std.specs.Prelude.{◌≡◌, Bool, List, [], ◌∷◌, ◌++◌, map, ℕ, suc, leb, eqb, length, Err, Ok}
use Rattle.std.proofs.Math.Path.{refl}
use Rattle.std.proofs.Common.{ap}
use Rattle.std.proofs.Math.Bool.{true, false}
use Rattle.std.proofs.Math.Option.{Option, none, some}
use Rattle.std.proofs.Math.ListN.{get_elem?}
use Rattle.script.specs.Rows.{UnaryOp, not_op, ref_op, get_op, BinaryOp, add_op, eq_op, and_op, set_op}
use Rattle.script.specs.Tests.{pick}
use Rattle.script.specs.Tree.{Expr, int, truth, var, unary, binary, if_else, let_in, typed_block, sym_block}
use Rattle.rules.specs.Checking.{check, exec}
use Rattle.rules.specs.Paths.{Path, Paths, Leaf, ended, stopped, ends, stops, forks, bind, start, assume, consistent, lookup, leaves}
use Rattle.rules.specs.Satisfiable.{satisfiable, some_choice, different, atoms_of, holds, different_atoms}
use Rattle.rules.proofs.Satisfiable.Laws.{one_branch}
use Rattle.rules.specs.Symbolic.{Formula, negation, conjunction, Symbolic, a_word, a_truth, a_reference, type_of}
use Rattle.rules.specs.SymbolicRules.{got, unary_exec, binary_exec, branches, atom_limit, decide, typed_result, variable}
use Rattle.rules.specs.TypedRules.{is_type}
use Rattle.rules.specs.Checking.Laws.{Everywhere, Possible, at-stop, at_end_lem, at_fork}
use Rattle.script.specs.Answers.Named.{Checked}

everywhere_then : {P : Path → Type 0} {t : Paths} (k : Symbolic → Path → Paths) → Everywhere P t → ((v : Symbolic) (p : Path) → P p → Everywhere P (k v p))
    → Everywhere P (bind t k)
unfolding bind
everywhere_then k (at_end_lem {v = v} {p = p} h) f = f v p h
everywhere_then k at-stop f = at-stop
everywhere_then k (at_fork h i) f = at_fork (everywhere_then k h f) (everywhere_then k i f)

either : {P : Path → Type 0} (b : Bool) {t u : Paths} → Everywhere P t → Everywhere P u → Everywhere P (pick b t u)
either true h i = h
either false h i = i

-- ---- operators leave the condition as it is

module _ {p : Path} (h : Possible p) where
  got-possible : (n : ℕ) (r : Option Symbolic) (t : ℕ) → Everywhere Possible (got n r t p)
  got-possible n none t = either (consistent p) (at_end_lem (record { possible = h.possible })) at-stop
  got-possible n (some v) t = at_end_lem h

  unary-possible : (n : ℕ) (o : UnaryOp) (v : Symbolic) → Everywhere Possible (unary_exec n o v p)
  unfolding unary_exec
  unary-possible n not_op (a_word a) = at-stop
  unary-possible n not_op (a_truth f) = at_end_lem h
  unary-possible n not_op (a_reference o t s) = at-stop
  unary-possible n ref_op v = either (is_type (suc (suc (type_of v)))) (at_end_lem (record { possible = h.possible })) at-stop
  unary-possible n get_op (a_word a) = at-stop
  unary-possible n get_op (a_truth f) = at-stop
  unary-possible n get_op (a_reference o t s) = got-possible n (lookup o s p.log) t

  binary-possible : (n : ℕ) (o : BinaryOp) (v w : Symbolic) → Everywhere Possible (binary_exec n o v w p)
  unfolding binary_exec
  binary-possible n add_op (a_word a) (a_word b) = at_end_lem h
  binary-possible n add_op (a_word a) (a_truth g) = at-stop
  binary-possible n add_op (a_word a) (a_reference o t s) = at-stop
  binary-possible n add_op (a_truth f) w = at-stop
  binary-possible n add_op (a_reference o t s) w = at-stop
  binary-possible n eq_op (a_word a) (a_word b) = at_end_lem h
  binary-possible n eq_op (a_word a) (a_truth g) = at-stop
  binary-possible n eq_op (a_word a) (a_reference o t s) = at-stop
  binary-possible n eq_op (a_truth f) (a_word b) = at-stop
  binary-possible n eq_op (a_truth f) (a_truth g) = at_end_lem h
  binary-possible n eq_op (a_truth f) (a_reference o t s) = at-stop
  binary-possible n eq_op (a_reference o t s) (a_word b) = at-stop
  binary-possible n eq_op (a_reference o t s) (a_truth g) = at-stop
  binary-possible n eq_op (a_reference o t s) (a_reference o' t' s') = either (eqb t t') (at_end_lem h) at-stop
  binary-possible n and_op (a_truth f) (a_truth g) = at_end_lem h
  binary-possible n and_op (a_truth f) (a_word b) = at-stop
  binary-possible n and_op (a_truth f) (a_reference o t s) = at-stop
  binary-possible n and_op (a_word a) w = at-stop
  binary-possible n and_op (a_reference o t s) w = at-stop
  binary-possible n set_op (a_word a) w = at-stop
  binary-possible n set_op (a_truth f) w = at-stop
  binary-possible n set_op (a_reference o t s) w = at_end_lem (record { possible = h.possible })

  variable-possible : (n : ℕ) (r : Option Symbolic) → Everywhere Possible (variable n p r)
  unfolding variable
  variable-possible n none = at-stop
  variable-possible n (some v) = at_end_lem h

  typed-possible : (n : ℕ) (c : Checked) → Everywhere Possible (typed_result n p c)
  unfolding typed_result
  typed-possible n (Ok t) = either (consistent p) (at_end_lem (record { possible = h.possible })) at-stop
  typed-possible n (Err r) = at-stop

  -- ---- a branch is followed only if its condition is satisfiable

  branches-possible : (g : Formula) (e f : Path → Paths) (s t : Bool)
      → satisfiable (conjunction p.condition g) ≡ s → satisfiable (conjunction p.condition (negation g)) ≡ t
      → ((q : Path) → Possible q → Everywhere Possible (e q)) → ((q : Path) → Possible q → Everywhere Possible (f q))
      → Everywhere Possible
      (branches s t e f (assume (conjunction p.condition g) p) (assume (conjunction p.condition (negation g)) p))
  unfolding branches
  branches-possible g e f true true a b i j = at_fork (i _ (record { possible = a })) (j _ (record { possible = b }))
  branches-possible g e f true false a b i j = i _ (record { possible = a })
  branches-possible g e f false t a b i j = j _ (record { possible = one_branch p.condition g h.possible a })

  decide-possible : (n : ℕ) (v : Symbolic) (e f : Path → Paths)
      → ((q : Path) → Possible q → Everywhere Possible (e q)) → ((q : Path) → Possible q → Everywhere Possible (f q))
      → Everywhere Possible (decide n v p e f)
  unfolding decide
  decide-possible n (a_word a) e f i j = at-stop
  decide-possible n (a_truth g) e f i j =
      either (leb (length (different_atoms (conjunction p.condition g))) atom_limit) (branches-possible g e f _ _ refl refl i j) at-stop
  decide-possible n (a_reference o t s) e f i j = at-stop

-- ---- every path

pub start-possible : (n : ℕ) → Possible (start n)
unfolding satisfiable some_choice different atoms_of holds
start-possible n = record { possible = refl }

pub exec-possible : (limit : ℕ) (e : Expr) (env : List Symbolic) (p : Path) → Possible p → Everywhere Possible (exec limit e env p)
unfolding exec
exec-possible limit (int n w) env p h = at_end_lem h
exec-possible limit (truth n b) env p h = at_end_lem h
exec-possible limit (var n k) env p h = variable-possible h n (get_elem? env k)
exec-possible limit (unary n o e) env p h = everywhere_then (unary_exec n o) (exec-possible limit e env p h) (λ v q i. unary-possible i n o v)
exec-possible limit (binary n o e f) env p h =
    everywhere_then (λ v p₁. bind (exec limit f env p₁) (binary_exec n o v)) (exec-possible limit e env p h)
    (λ v q i. everywhere_then (binary_exec n o v) (exec-possible limit f env q i) (λ w r j. binary-possible j n o v w))
exec-possible limit (if_else n c e f) env p h =
    everywhere_then (λ v p₁. decide n v p₁ (exec limit e env) (exec limit f env)) (exec-possible limit c env p h)
    (λ v q i. decide-possible i n v (exec limit e env) (exec limit f env) (exec-possible limit e env) (exec-possible limit f env))
exec-possible limit (let_in n e f) env p h =
    everywhere_then (λ v p₁. exec limit f (env ++ (v ∷ [])) p₁) (exec-possible limit e env p h) (λ v q i. exec-possible limit f (env ++ (v ∷ [])) q i)
exec-possible limit (typed_block n e) env p h = typed-possible h n (check limit e (map type_of env))
exec-possible limit (sym_block n e) env p h = exec-possible limit e env p h

-- a decision tree has a first path
pub first-path : (t : Paths) → (l : Leaf) × (ls : List Leaf) × (leaves t ≡ l ∷ ls)
unfolding leaves
first-path (ends v p) = (ended v p, [], refl)
first-path (stops r) = (stopped r, [], refl)
first-path (forks t u) = let h = first-path t in (h.0, h.1 ++ leaves u, ap (λ (ls : List Leaf). ls ++ leaves u) h.2)
