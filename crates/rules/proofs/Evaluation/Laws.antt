-- A run drops no cell and adds at most as many as the tree has nodes, whether it ends in a value or in the error state. Assumes nothing.
use Rattle.std.specs.Prelude.{Bool, true, false, List, [], ◌∷◌, ◌++◌, ℕ, ◌+◌, ◌≤◌, length}
use Rattle.std.proofs.Math.Option.{Option, none, some}
use Rattle.std.proofs.Common.{arith, length-append, length-set}
use Rattle.std.proofs.Math.ListN.{get_elem?}
use Rattle.script.specs.Rows.{UnaryOp, not_op, ref_op, get_op, BinaryOp, add_op, eq_op, and_op, set_op}
use Rattle.script.specs.Tree.{Expr, int, truth, var, unary, binary, if_else, let_in, typed_block, sym_block, size}
use Rattle.script.specs.declared.Value.{Value}
use Rattle.script.specs.declared.Value.TheVariants.{Word, Truth, Location}
use Rattle.rules.specs.Evaluation.{Outcome, gave, failed, after, found, as_word, as_truth, as_location, equal, unary_on, binary_on, branch_on, eval}
use Rattle.rules.specs.Evaluation.Laws.{Grows}

pub grows-more : {n s : ℕ} {o : Outcome} (t : ℕ) → s ≤ t → Grows n s o → Grows n t o
grows-more t h g = omega arith

pub grows-gave : (v : Value) (cs : List Value) (s : ℕ) → Grows (length cs) s (gave v cs)
grows-gave v cs s = omega arith

pub grows-failed : (k : ℕ) (cs : List Value) (s : ℕ) → Grows (length cs) s (failed k cs)
grows-failed k cs s = omega arith

-- one step after the other
pub grows-after : (n s t : ℕ) (o : Outcome) (k : Value → List Value → Outcome)
    → Grows n s o → ((v : Value) (cs : List Value) → Grows (length cs) t (k v cs)) → Grows n (s + t) (after o k)
grows-after n s t (gave v cs) k g h = let i = h v cs in omega arith
grows-after n s t (failed m cs) k g h = omega arith

module _ (n s : ℕ) (other : Outcome) (g : Grows n s other) where
  pub grows-found : (o : Option Value) (k : Value → Outcome) → ((v : Value) → Grows n s (k v)) → Grows n s (found o other k)
  grows-found none k h = g
  grows-found (some v) k h = h v

  pub grows-word : (v : Value) (k : ℕ → Outcome) → ((w : ℕ) → Grows n s (k w)) → Grows n s (as_word v other k)
  grows-word (Word w) k h = h w
  grows-word (Truth b) k h = g
  grows-word (Location l) k h = g

  pub grows-truth : (v : Value) (k : Bool → Outcome) → ((b : Bool) → Grows n s (k b)) → Grows n s (as_truth v other k)
  grows-truth (Word w) k h = g
  grows-truth (Truth b) k h = h b
  grows-truth (Location l) k h = g

  pub grows_location : (v : Value) (k : ℕ → Outcome) → ((l : ℕ) → Grows n s (k l)) → Grows n s (as_location v other k)
  grows_location (Word w) k h = g
  grows_location (Truth b) k h = g
  grows_location (Location l) k h = h l

  pub grows-equal : (v w : Value) (k : Bool → Outcome) → ((b : Bool) → Grows n s (k b)) → Grows n s (equal v w other k)
  grows-equal (Word v) w k h = grows-word w _ λ u. h _
  grows-equal (Truth b) w k h = grows-truth w _ λ c. h _
  grows-equal (Location l) w k h = grows_location w _ λ m. h _

pub grows-unary : (n : ℕ) (o : UnaryOp) (v : Value) (cs : List Value) → Grows (length cs) 1 (unary_on n o v cs)
unfolding unary_on
grows-unary n not_op v cs = grows-truth (length cs) 1 (failed n cs) (grows-failed n cs 1) v _ λ b. grows-gave _ cs 1
grows-unary n ref_op v cs = let h = length-append cs (v ∷ []) in omega arith
grows-unary n get_op v cs =
    let e = grows-failed n cs 1 in
    grows_location (length cs) 1 (failed n cs) e v _ λ l. grows-found (length cs) 1 (failed n cs) e (get_elem? cs l) _ λ u. grows-gave u cs 1

pub grows-binary : (n : ℕ) (o : BinaryOp) (v w : Value) (cs : List Value) → Grows (length cs) 0 (binary_on n o v w cs)
unfolding binary_on
grows-binary n add_op v w cs =
    let e = grows-failed n cs 0 in
    grows-word (length cs) 0 (failed n cs) e v _ λ a. grows-word (length cs) 0 (failed n cs) e w _ λ b. grows-gave _ cs 0
grows-binary n eq_op v w cs = grows-equal (length cs) 0 (failed n cs) (grows-failed n cs 0) v w _ λ b. grows-gave _ cs 0
grows-binary n and_op v w cs =
    let e = grows-failed n cs 0 in
    grows-truth (length cs) 0 (failed n cs) e v _ λ a. grows-truth (length cs) 0 (failed n cs) e w _ λ b. grows-gave _ cs 0
grows-binary n set_op v w cs =
    let e = grows-failed n cs 0 in
    grows_location (length cs) 0 (failed n cs) e v _ λ l.
    grows-found (length cs) 0 (failed n cs) e (get_elem? cs l) _ λ u. let h = length-set cs l w in omega arith

pub grows-branch : (n s : ℕ) (v : Value) (cs : List Value) (e f : List Value → Outcome)
    → Grows (length cs) s (e cs) → Grows (length cs) s (f cs) → Grows (length cs) s (branch_on n v cs e f)
grows-branch n s (Word w) cs e f g h = grows-failed n cs s
grows-branch n s (Truth true) cs e f g h = g
grows-branch n s (Truth false) cs e f g h = h
grows-branch n s (Location l) cs e f g h = grows-failed n cs s

-- THE LAW: no cell is dropped, and at most one is added for each node
pub eval-grows : (e : Expr) (env cs : List Value) → Grows (length cs) (size e) (eval e env cs)
unfolding eval size
eval-grows (int n w) env cs = grows-gave _ cs 1
eval-grows (truth n b) env cs = grows-gave _ cs 1
eval-grows (var n k) env cs =
    grows-found (length cs) 1 (failed n cs) (grows-failed n cs 1) (get_elem? env k) _ λ v. grows-gave v cs 1
eval-grows (unary n o e) env cs =
    grows-more _ (omega arith) (grows-after (length cs) (size e) 1 _ _ (eval-grows e env cs) (grows-unary n o))
eval-grows (binary n o e f) env cs =
    grows-more _ (omega arith)
    (grows-after (length cs) (size e) (size f + 0) _ _ (eval-grows e env cs) λ v cs₁.
    grows-after (length cs₁) (size f) 0 _ _ (eval-grows f env cs₁) λ w cs₂. grows-binary n o v w cs₂)
eval-grows (if_else n c e f) env cs =
    grows-more _ (omega arith)
    (grows-after (length cs) (size c) (size e + size f) _ _ (eval-grows c env cs) λ v cs₁.
    grows-branch n (size e + size f) v cs₁ _ _
    (grows-more _ (omega arith) (eval-grows e env cs₁)) (grows-more _ (omega arith) (eval-grows f env cs₁)))
eval-grows (let_in n e f) env cs =
    grows-more _ (omega arith)
    (grows-after (length cs) (size e) (size f) _ _ (eval-grows e env cs) λ v cs₁. eval-grows f (env ++ (v ∷ [])) cs₁)
eval-grows (typed_block n e) env cs = grows-more _ (omega arith) (eval-grows e env cs)
eval-grows (sym_block n e) env cs = grows-more _ (omega arith) (eval-grows e env cs)
