-- A run that ends in the error state names a node of its tree. Assumes nothing.
use Rattle.std.specs.Prelude.{true, false, List, [], ◌∷◌, ◌++◌, ℕ, ◌<◌}
use Rattle.std.proofs.Math.Option.{Option, none, some}
use Rattle.std.proofs.Math.ListN.{get_elem?}
use Rattle.script.specs.Rows.{UnaryOp, not_op, ref_op, get_op, BinaryOp, add_op, eq_op, and_op, set_op}
use Rattle.script.specs.Tree.{Expr}
use Rattle.script.specs.Tree.Numbers.{Numbered, num_int, num_truth, num_var, num_unary, num_binary, num_if, num_let, num_typed, num_sym}
use Rattle.script.specs.declared.Value.{Value}
use Rattle.script.specs.declared.Value.TheVariants.{Word, Truth, Location}
use Rattle.rules.specs.Evaluation.{Outcome, failed, after, found, unary_on, binary_on, branch_on, eval}
use Rattle.rules.specs.Evaluation.Places.{FailsBelow, fails, gives}

module _ {m : ℕ} where
  after-below : {o : Outcome} (k : Value → List Value → Outcome) → FailsBelow m o → ((v : Value) (cs : List Value) → FailsBelow m (k v cs)) → FailsBelow m (after o k)
  after-below k (gives {v = v} {cs = cs}) f = f v cs
  after-below k (fails h) f = fails h

  module _ {n : ℕ} (h : n < m) where
    found_below : (o : Option Value) (cs : List Value) (k : Value → Outcome) → ((v : Value) → FailsBelow m (k v)) → FailsBelow m (found o (failed n cs) k)
    found_below none cs k f = fails h
    found_below (some v) cs k f = f v

    unary-below : (o : UnaryOp) (v : Value) (cs : List Value) → FailsBelow m (unary_on n o v cs)
    unfolding unary_on
    unary-below not_op (Word w) cs = fails h
    unary-below not_op (Truth b) cs = gives
    unary-below not_op (Location l) cs = fails h
    unary-below ref_op v cs = gives
    unary-below get_op (Word w) cs = fails h
    unary-below get_op (Truth b) cs = fails h
    unary-below get_op (Location l) cs = found_below (get_elem? cs l) cs _ (λ v. gives)

    binary-below : (o : BinaryOp) (v w : Value) (cs : List Value) → FailsBelow m (binary_on n o v w cs)
    unfolding binary_on
    binary-below add_op (Word a) (Word b) cs = gives
    binary-below add_op (Word a) (Truth b) cs = fails h
    binary-below add_op (Word a) (Location l) cs = fails h
    binary-below add_op (Truth a) w cs = fails h
    binary-below add_op (Location l) w cs = fails h
    binary-below eq_op (Word a) (Word b) cs = gives
    binary-below eq_op (Word a) (Truth b) cs = fails h
    binary-below eq_op (Word a) (Location l) cs = fails h
    binary-below eq_op (Truth a) (Word b) cs = fails h
    binary-below eq_op (Truth a) (Truth b) cs = gives
    binary-below eq_op (Truth a) (Location l) cs = fails h
    binary-below eq_op (Location l) (Word b) cs = fails h
    binary-below eq_op (Location l) (Truth b) cs = fails h
    binary-below eq_op (Location l) (Location k) cs = gives
    binary-below and_op (Truth a) (Truth b) cs = gives
    binary-below and_op (Truth a) (Word b) cs = fails h
    binary-below and_op (Truth a) (Location l) cs = fails h
    binary-below and_op (Word a) w cs = fails h
    binary-below and_op (Location l) w cs = fails h
    binary-below set_op (Word a) w cs = fails h
    binary-below set_op (Truth a) w cs = fails h
    binary-below set_op (Location l) w cs = found_below (get_elem? cs l) cs _ (λ v. gives)

    branch-below : (v : Value) (cs : List Value) (e f : List Value → Outcome) → ((ds : List Value) → FailsBelow m (e ds)) → ((ds : List Value) → FailsBelow m (f ds))
        → FailsBelow m (branch_on n v cs e f)
    branch-below (Word w) cs e f i j = fails h
    branch-below (Truth true) cs e f i j = i cs
    branch-below (Truth false) cs e f i j = j cs
    branch-below (Location l) cs e f i j = fails h

  -- THE LAW
  pub eval-below : {e : Expr} → Numbered m e → (env cs : List Value) → FailsBelow m (eval e env cs)
  unfolding eval
  eval-below (num_int h) env cs = gives
  eval-below (num_truth h) env cs = gives
  eval-below (num_var {k = k} h) env cs = found_below h (get_elem? env k) cs _ (λ v. gives)
  eval-below (num_unary {o = o} h e) env cs = after-below _ (eval-below e env cs) (λ v ds. unary-below h o v ds)
  eval-below (num_binary {o = o} h e f) env cs =
      after-below _ (eval-below e env cs) (λ v ds. after-below _ (eval-below f env ds) (λ w es. binary-below h o v w es))
  eval-below (num_if h c e f) env cs = after-below _ (eval-below c env cs) (λ v ds. branch-below h v ds _ _ (eval-below e env) (eval-below f env))
  eval-below (num_let h e f) env cs = after-below _ (eval-below e env cs) (λ v ds. eval-below f (env ++ (v ∷ [])) ds)
  eval-below (num_typed h e) env cs = eval-below e env cs
  eval-below (num_sym h e) env cs = eval-below e env cs
